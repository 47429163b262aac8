-- What is zero but in some fields, and fields that are apart.
use Rattle.std.proofs.Common.{◌≡◌, ℕ, zero, suc, ◌+◌, ◌<◌, ◌≤◌, ◌==◌, Bool, true, false, not, ◌&&◌, ◌||◌, List, [], ◌∷◌, ◌++◌, length, take, drop, replicate, get_or, refl, sym, ap, ◌∙◌, subst, arith, inl, inr, eqb-true}
use Rattle.std.specs.Prelude.{nat_le, nat_lt}
use Rattle.std.specs.List.{list_all, list_any}
use Rattle.std.proofs.lemmas.Bool.{and_cases, and_from, and_left, and_parts, and_right, both_ways, cases_Bool, le-leb, le-ltb, leb-true, lt-leb, ltb-false, ltb-true, or_cases, or_from, or_left, or_parts, or_right, lt-ltb, eqb-false, not-true}
use Rattle.std.proofs.lemmas.List.{get_or-drop, length-replicate}
use Rattle.cb_meaning.specs.declared.layout.Field.{Field}
use Rattle.cb_meaning.specs.Fields.{byte_at, field, is_in, is_zero_but, number_at, number_of, part, zero_from}
use Rattle.cb_meaning.specs.Layouts.{all_apart, is_apart}
use Rattle.walk_laws.proofs.faultless.Parts.{part_long, zeros_number}

true_not_false : true ≡ false → ⊥
true_not_false e = cc

abbrev pub in_some : List Field → ℕ → Bool
in_some named k = list_any (λ f. is_in f k) named

abbrev IsOut : List Field → ℕ → Type 0
IsOut named k = in_some named k ≡ false

zero_there : (named : List Field) (k j : ℕ) (bytes : List ℕ) → zero_from named k bytes ≡ true → IsOut named (k + j) → get_or bytes j 0 ≡ 0
zero_there named k j [] h e = refl
zero_there named k zero (b ∷ bytes) h e =
    let parts = and_parts (in_some named k || b == 0) (zero_from named (k + 1) bytes) h in
    let here : in_some named k ≡ false = subst (IsOut named) (omega arith) e in
    elim (or_cases (in_some named k) (b == 0) parts.0) [
      | inl used ↦ absurd (both_ways (in_some named k) here used)
      | inr is ↦ eqb-true b 0 is
    ]
zero_there named k (suc j) (b ∷ bytes) h e =
    let parts = and_parts (in_some named k || b == 0) (zero_from named (k + 1) bytes) h in
    zero_there named (k + 1) j bytes parts.1 (subst (IsOut named) (omega arith) e)

pub zero_byte : (named : List Field) (r : List ℕ) (k : ℕ) → is_zero_but named r ≡ true → in_some named k ≡ false → byte_at r k ≡ 0
zero_byte named r k h e = let start : 0 + k ≡ k = omega arith in zero_there named 0 k r h (subst (IsOut named) (sym start) e)

-- more fields may be used
more_from : (named others : List Field) → ((k : ℕ) → IsOut others k → IsOut named k) → (k : ℕ) (bytes : List ℕ) → zero_from named k bytes ≡ true →
    zero_from others k bytes ≡ true
more_from named others within k [] h = refl
more_from named others within k (b ∷ bytes) h =
    let parts = and_parts (in_some named k || b == 0) (zero_from named (k + 1) bytes) h in
    let rest = more_from named others within (k + 1) bytes parts.1 in
    let here : (in_some others k || b == 0) ≡ true =
    elim (cases_Bool (in_some others k)) [
      | inl used ↦ or_left (in_some others k) (b == 0) used
      | inr free ↦ or_right (in_some others k) (b == 0) (elim (or_cases (in_some named k) (b == 0) parts.0) [
        | inl used ↦ absurd (both_ways (in_some named k) (within k free) used)
        | inr is ↦ is
      ])
    ] in
    and_from (in_some others k || b == 0) (zero_from others (k + 1) bytes) here rest

pub more_fields : (named others : List Field) (r : List ℕ) → ((k : ℕ) → in_some others k ≡ false → in_some named k ≡ false) → is_zero_but named r ≡ true →
    is_zero_but others r ≡ true
more_fields named others r within h = more_from named others within 0 r h

-- a byte of one field is not in another that is apart
pub apart_out : (f g : Field) (k : ℕ) → is_apart f g ≡ true → is_in f k ≡ true → is_in g k ≡ false
apart_out f g k h e =
    let parts = and_parts (nat_le f.at k) (nat_lt k (f.at + f.width)) e in
    let low = leb-true f.at k parts.0 in
    let high = ltb-true k (f.at + f.width) parts.1 in
    elim (or_cases (nat_le (f.at + f.width) g.at) (nat_le (g.at + g.width) f.at) h) [
      | inl before ↦ (let b = leb-true (f.at + f.width) g.at before in
          and_left (nat_le g.at k) (nat_lt k (g.at + g.width)) (lt-leb g.at k (omega (arith, b, low, high))))
      | inr behind ↦ (let b = leb-true (g.at + g.width) f.at behind in
          and_right (nat_le g.at k) (nat_lt k (g.at + g.width)) (le-ltb k (g.at + g.width) (omega (arith, b, low, high))))
    ]

pub apart_back : (f g : Field) (k : ℕ) → is_apart f g ≡ true → is_in g k ≡ true → is_in f k ≡ false
apart_back f g k h e =
    elim (cases_Bool (is_in f k)) [
      | inl inside ↦ absurd (both_ways (is_in g k) (apart_out f g k h inside) e)
      | inr out ↦ out
    ]

abbrev at_place : List Field → ℕ → Field
at_place fs i = get_or fs i (field 0 0)

first_alone : (f : Field) (fs : List Field) (j : ℕ) → list_all (λ g. is_apart f g) fs ≡ true → nat_lt j (length fs) ≡ true → is_apart f (at_place fs j) ≡ true
first_alone f [] j h e = absurd (let no = ltb-true j 0 e in omega (arith, no))
first_alone f (g ∷ fs) zero h e = (and_parts (is_apart f g) (list_all (λ x. is_apart f x) fs) h).0
first_alone f (g ∷ fs) (suc j) h e =
    let less = ltb-true (suc j) (length (g ∷ fs)) e in
    first_alone f fs j (and_parts (is_apart f g) (list_all (λ x. is_apart f x) fs) h).1 (lt-ltb j (length fs) (omega (arith, less)))

-- of fields that are apart a byte is in one at most
abbrev pub IsOther : List Field → ℕ → ℕ → Type 0
IsOther fs i j = (not (i == j) && (nat_lt i (length fs) && nat_lt j (length fs))) ≡ true

less_length : (n : ℕ) (f : Field) (fs : List Field) → nat_lt (suc n) (length (f ∷ fs)) ≡ true → nat_lt n (length fs) ≡ true
less_length n f fs e = let less = ltb-true (suc n) (length (f ∷ fs)) e in lt-ltb n (length fs) (omega (arith, less))

apart_places : (fs : List Field) → all_apart fs ≡ true → (i j : ℕ) → ((i ≡ j) → ⊥) → nat_lt i (length fs) ≡ true → nat_lt j (length fs) ≡ true → (k : ℕ) →
    is_in (at_place fs j) k ≡ true → is_in (at_place fs i) k ≡ false
apart_places [] h i j d e g k u = absurd (let no = ltb-true i 0 e in omega (arith, no))
apart_places (f ∷ fs) h zero zero d e g k u = absurd (d refl)
apart_places (f ∷ fs) h zero (suc j) d e g k u =
    let parts = and_parts (list_all (λ x. is_apart f x) fs) (all_apart fs) h in
    apart_back f (at_place fs j) k (first_alone f fs j parts.0 (less_length j f fs g)) u
apart_places (f ∷ fs) h (suc i) zero d e g k u =
    let parts = and_parts (list_all (λ x. is_apart f x) fs) (all_apart fs) h in
    apart_out f (at_place fs i) k (first_alone f fs i parts.0 (less_length i f fs e)) u
apart_places (f ∷ fs) h (suc i) (suc j) d e g k u =
    let parts = and_parts (list_all (λ x. is_apart f x) fs) (all_apart fs) h in
    apart_places fs parts.1 i j (λ same. d (ap suc same)) (less_length i f fs e) (less_length j f fs g) k u

pub alone : (fs : List Field) → all_apart fs ≡ true → (i j k : ℕ) → IsOther fs i j → is_in (get_or fs j (field 0 0)) k ≡ true →
    is_in (get_or fs i (field 0 0)) k ≡ false
alone fs h i j k other u =
    let parts = and_parts (not (i == j)) (nat_lt i (length fs) && nat_lt j (length fs)) other in
    let both = and_parts (nat_lt i (length fs)) (nat_lt j (length fs)) parts.1 in
    apart_places fs h i j (eqb-false i j (not-true (i == j) parts.0)) both.0 both.1 k u

-- a field whose bytes are zero
zero_take : (n : ℕ) (xs : List ℕ) → ((k : ℕ) → k < n → get_or xs k 0 ≡ 0) → (m : ℕ) × (take n xs ≡ replicate m 0)
zero_take zero xs h = (0, refl)
zero_take (suc n) [] h = (0, refl)
zero_take (suc n) (x ∷ xs) h =
    let rest = zero_take n xs (λ k less. h (suc k) (omega (arith, less))) in
    let first : x ≡ 0 = h 0 (omega arith) in
    (suc rest.0, (λ i. first i ∷ rest.1 i))

drop_reads : (n k : ℕ) (xs : List ℕ) → get_or (drop n xs) k 0 ≡ get_or xs (n + k) 0
drop_reads n k xs = get_or-drop n xs k 0

pub zero_number : (f : Field) (r : List ℕ) → ((k : ℕ) → is_in f k ≡ true → byte_at r k ≡ 0) → number_at r f ≡ 0
zero_number f r h =
    let zeros = zero_take f.width (drop f.at r) (λ k less. drop_reads f.at k r
    ∙ h (f.at + k) (and_from (nat_le f.at (f.at + k)) (nat_lt (f.at + k) (f.at + f.width)) (le-leb f.at (f.at + k) (omega arith))
    (lt-ltb (f.at + k) (f.at + f.width) (omega (arith, less))))) in
    ap number_of zeros.1 ∙ zeros_number zeros.0

pub zero_part : (f : Field) (r : List ℕ) → f.at + f.width ≤ length r → ((k : ℕ) → is_in f k ≡ true → byte_at r k ≡ 0) →
    part r f.at f.width ≡ replicate f.width 0
zero_part f r within h =
    let zeros = zero_take f.width (drop f.at r) (λ k less. drop_reads f.at k r
    ∙ h (f.at + k) (and_from (nat_le f.at (f.at + k)) (nat_lt (f.at + k) (f.at + f.width)) (le-leb f.at (f.at + k) (omega arith))
    (lt-ltb (f.at + k) (f.at + f.width) (omega (arith, less))))) in
    let size : length (part r f.at f.width) ≡ f.width = part_long r f.at f.width within in
    let count : zeros.0 ≡ f.width = sym (length-replicate zeros.0 0) ∙ (sym (ap length zeros.1) ∙ size) in
    zeros.1 ∙ ap (λ n. replicate n 0) count

-- a byte is in none of some fields
abbrev pub NoneIn : List Field → ℕ → Type 0
NoneIn [] k = Unit {0}
NoneIn (f ∷ fs) k = (is_in f k ≡ false) × NoneIn fs k

pub none_in : (fs : List Field) (k : ℕ) → NoneIn fs k → in_some fs k ≡ false
none_in [] k h = refl
none_in (f ∷ fs) k h = or_from (is_in f k) (in_some fs k) h.0 (none_in fs k h.1)

pub out_at : (fs : List Field) (k i : ℕ) → NoneIn fs k → is_in (get_or fs i (field 0 0)) k ≡ false
out_at [] k i h = and_right (nat_le 0 k) (nat_lt k 0) (le-ltb k 0 (omega arith))
out_at (f ∷ fs) k zero h = h.0
out_at (f ∷ fs) k (suc i) h = out_at fs k i h.1

abbrev pub is_other : List Field → ℕ → ℕ → Bool
is_other fs j i = not (i == j) && (nat_lt i (length fs) && nat_lt j (length fs))

abbrev pub places_of : List Field → List ℕ → List Field
places_of fs [] = []
places_of fs (i ∷ is) = get_or fs i (field 0 0) ∷ places_of fs is

pub all_alone : (fs : List Field) → all_apart fs ≡ true → (is : List ℕ) (j k : ℕ) → list_all (is_other fs j) is ≡ true →
    is_in (get_or fs j (field 0 0)) k ≡ true → NoneIn (places_of fs is) k
all_alone fs h [] j k other u = tt
all_alone fs h (i ∷ is) j k other u =
    let parts = and_parts (is_other fs j i) (list_all (is_other fs j) is) other in
    (alone fs h i j k parts.0 u, all_alone fs h is j k parts.1 u)

-- a field of two behind each other
pub joined_out : (from m n k : ℕ) → is_in (field from m) k ≡ false → is_in (field (from + m) n) k ≡ false → is_in (field from (m + n)) k ≡ false
joined_out from m n k a b =
    elim (cases_Bool (is_in (field from (m + n)) k)) [
      | inr out ↦ out
      | inl inside ↦ (let parts = and_parts (nat_le from k) (nat_lt k (from + (m + n))) inside in
          let low = leb-true from k parts.0 in
          let high = ltb-true k (from + (m + n)) parts.1 in
          elim (and_cases (nat_le from k) (nat_lt k (from + m)) a) [
            | inl under ↦ absurd (both_ways (nat_le from k) under parts.0)
            | inr past ↦ (let behind = ltb-false k (from + m) past in
                absurd (both_ways (is_in (field (from + m) n) k) b
                (and_from (nat_le (from + m) k) (nat_lt k (from + m + n)) (le-leb (from + m) k behind) (lt-ltb k (from + m + n) (omega (arith, high))))))
          ])
    ]

-- and a field within another
pub within_out : (from n at m k : ℕ) → from ≤ at → at + m ≤ from + n → is_in (field from n) k ≡ false → is_in (field at m) k ≡ false
within_out from n at m k low high out =
    elim (cases_Bool (is_in (field at m) k)) [
      | inr other ↦ other
      | inl inside ↦ (let parts = and_parts (nat_le at k) (nat_lt k (at + m)) inside in
          let under = leb-true at k parts.0 in
          let over = ltb-true k (at + m) parts.1 in
          absurd (both_ways (is_in (field from n) k) out (and_from (nat_le from k) (nat_lt k (from + n)) (le-leb from k (omega (arith, low, under)))
          (lt-ltb k (from + n) (omega (arith, high, over))))))
    ]

pub out_all : (fs : List Field) (k : ℕ) → in_some fs k ≡ false → NoneIn fs k
out_all [] k h = tt
out_all (f ∷ fs) k h = let parts = or_parts (is_in f k) (in_some fs k) h in (parts.0, out_all fs k parts.1)

pub none_in_both : (fs gs : List Field) (k : ℕ) → NoneIn fs k → NoneIn gs k → NoneIn (fs ++ gs) k
none_in_both [] gs k h g = g
none_in_both (f ∷ fs) gs k h g = (h.0, none_in_both fs gs k h.1 g)
