-- What stands in a record once entries were made in fields that are apart.
use Rattle.std.proofs.Common.{◌≡◌, ℕ, zero, suc, ◌+◌, ◌-◌, ◌≤◌, true, false, ◌||◌, ◌==◌, List, [], ◌∷◌, ◌++◌, length, take, drop, replicate, get_or, arith}
use Rattle.std.proofs.Common.{refl, ap, ◌∙◌, sym, subst, inl, inr, add-zero}
use Rattle.std.specs.Prelude.{nat_le, nat_lt}
use Rattle.std.specs.List.{list_all, list_any}
use Rattle.std.proofs.lemmas.Bool.{and_from, and_parts, cases_Bool, eq-eqb, le-leb, leb-true, lt-ltb, ltb-true, or_cases, or_left, or_right, both_ways}
use Rattle.std.proofs.lemmas.List.{drop-replicate, get_or-drop, get_or-take, length-replicate, take-replicate}
use Rattle.cb_meaning.specs.declared.layout.Field.{Field}
use Rattle.cb_meaning.specs.declared.layout.Layout.{Layout}
use Rattle.cb_meaning.specs.Fields.{byte_at, is_in, is_zero_but, number_of, part, zero_from}
use Rattle.cb_records.proofs.Kept.{part_stays}
use Rattle.cb_records.specs.Laws.{AreApart}
use Rattle.cb_records.specs.Writes.{ChangesOnly, IsWithin}
use Rattle.cb_queue.specs.RecordQueues.{HasOwnLink, unlinked}
use Rattle.cb_queue.proofs.Parts.{with_part_is}
use Rattle.cb_chain.specs.Entries.{AreEntered, Byte, Entry, Number, Stands, Text, place, places, zeros}
use Rattle.cb_meaning.specs.Layouts.{all_apart, is_apart}

pub append_entered : (xs ys : List Entry) (old middle new : List ℕ) → AreEntered old xs middle → AreEntered middle ys new → AreEntered old (xs ++ ys) new
append_entered [] ys old middle new first then = subst (λ r. AreEntered r ys new) first then
append_entered (x ∷ xs) ys old middle new first then = (first.0, first.1, first.2, append_entered xs ys first.0 middle new first.3 then)

pub nothing_changed : (f : Field) (r : List ℕ) → ChangesOnly f r r
nothing_changed f r = record { size = refl; others = λ k out. refl }

apart : (f g : Field) → is_apart f g ≡ true → AreApart g f
apart f g h =
    elim (or_cases (nat_le (f.at + f.width) g.at) (nat_le (g.at + g.width) f.at) h) [
      | inl before ↦ inr (leb-true (f.at + f.width) g.at before)
      | inr behind ↦ inl (leb-true (g.at + g.width) f.at behind)
    ]

-- a field that no later entry touches
later_stays : (f : Field) (entries : List Entry) (old new : List ℕ) → AreEntered old entries new → list_all (λ g. is_apart f g) (places entries) ≡ true →
    part new f.at f.width ≡ part old f.at f.width
later_stays f [] old new made away = ap (λ r. part r f.at f.width) made
later_stays f (e ∷ entries) old new made away =
    let both = and_parts (is_apart f (place e)) (list_all (λ g. is_apart f g) (places entries)) away in
    later_stays f entries made.0 new made.3 both.1 ∙ part_stays (place e) f old made.0 made.1 (apart f (place e) both.0)

byte_of_part : (r : List ℕ) (at : ℕ) → get_or (part r at 1) 0 0 ≡ get_or r at 0
byte_of_part r at = get_or-take 1 (drop at r) 0 0 (omega arith) ∙ get_or-drop at r 0 0 ∙ ap (λ k. get_or r k 0) (add-zero at)

stands_still : (e : Entry) (old new : List ℕ) → part new (place e).at (place e).width ≡ part old (place e).at (place e).width → Stands old e → Stands new e
stands_still (Byte at b) old new same h = sym (byte_of_part new at) ∙ ap (λ bytes. get_or bytes 0 0) same ∙ byte_of_part old at ∙ h
stands_still (Number f n) old new same h = ap number_of same ∙ h
stands_still (Text f bytes) old new same h = same ∙ h

-- each entry stands
abbrev pub AllStand : List ℕ → List Entry → Type 0
AllStand r [] = Unit {0}
AllStand r (e ∷ entries) = Stands r e × AllStand r entries

pub all_stand : (entries : List Entry) (old new : List ℕ) → all_apart (places entries) ≡ true → AreEntered old entries new → AllStand new entries
all_stand [] old new away made = tt
all_stand (e ∷ entries) old new away made =
    let both = and_parts (list_all (λ g. is_apart (place e) g) (places entries)) (all_apart (places entries)) away in
    (stands_still e made.0 new (later_stays (place e) entries made.0 new made.3 both.0) made.2, all_stand entries made.0 new both.1 made.3)

pub size_stays : (entries : List Entry) (old new : List ℕ) → AreEntered old entries new → length new ≡ length old
size_stays [] old new made = ap length made
size_stays (e ∷ entries) old new made = size_stays entries made.0 new made.3 ∙ made.1.size

-- a byte that is in none of these fields
abbrev pub InNone : ℕ → List Field → Type 0
InNone k [] = Unit {0}
InNone k (f ∷ fields) = (is_in f k ≡ false) × InNone k fields

in_none : (k : ℕ) (fields : List Field) → list_any (λ f. is_in f k) fields ≡ false → InNone k fields
in_none k [] h = tt
in_none k (f ∷ fields) h =
    elim (cases_Bool (is_in f k)) [
      | inl inside ↦ absurd (true_not_false (sym (or_left (is_in f k) (list_any (λ g. is_in g k) fields) inside) ∙ h))
      | inr outside ↦ (outside, in_none k fields (rest outside))
    ]
  where
    true_not_false : true ≡ false → ⊥
    true_not_false e = cc

    rest : is_in f k ≡ false → list_any (λ g. is_in g k) fields ≡ false
    rest outside = sym (ap (λ b. b || list_any (λ g. is_in g k) fields) outside) ∙ h

other_bytes_stay : (entries : List Entry) (old new : List ℕ) → AreEntered old entries new → (k : ℕ) → InNone k (places entries) → byte_at new k ≡ byte_at old k
other_bytes_stay [] old new made k out = ap (λ r. byte_at r k) made
other_bytes_stay (e ∷ entries) old new made k out = other_bytes_stay entries made.0 new made.3 k out.1 ∙ made.1.others k out.0

-- a smaller field
pub narrow : (f g : Field) (k : ℕ) → g.at ≤ f.at → f.at + f.width ≤ g.at + g.width → is_in g k ≡ false → is_in f k ≡ false
narrow f g k from to out =
    elim (cases_Bool (is_in f k)) [
      | inl inside ↦
          (let both = and_parts (nat_le f.at k) (nat_lt k (f.at + f.width)) inside in
          let low = leb-true f.at k both.0 in
          let high = ltb-true k (f.at + f.width) both.1 in
          let wide = and_from (nat_le g.at k) (nat_lt k (g.at + g.width)) (le-leb g.at k (omega (arith, low, from)))
          (lt-ltb k (g.at + g.width) (omega (arith, high, to))) in
          absurd (both_ways (is_in g k) out wide))
      | inr outside ↦ outside
    ]

zero_outside : (named : List Field) (k : ℕ) (bytes : List ℕ) → ((j m : ℕ) → m ≡ k + j → InNone m named → get_or bytes j 0 ≡ 0) → zero_from named k bytes ≡ true
zero_outside named k [] h = refl
zero_outside named k (b ∷ bytes) h =
    and_from (list_any (λ f. is_in f k) named || b == 0) (zero_from named (k + 1) bytes)
    (elim (cases_Bool (list_any (λ f. is_in f k) named)) [
      | inl in_one ↦ or_left (list_any (λ f. is_in f k) named) (b == 0) in_one
      | inr out ↦ or_right (list_any (λ f. is_in f k) named) (b == 0) (eq-eqb b 0 (h 0 k (omega arith) (in_none k named out)))
    ])
    (zero_outside named (k + 1) bytes (λ j m is out. h (suc j) m (omega (arith, is)) out))

zero_byte : (k : ℕ) → byte_at zeros k ≡ 0
zero_byte k = zero_in 176 k
  where
    zero_in : (n k : ℕ) → get_or (replicate {A = ℕ} n 0) k 0 ≡ 0
    zero_in zero k = refl
    zero_in (suc n) zero = refl
    zero_in (suc n) (suc k) = zero_in n k

-- entries in fields of these alone, made in a record of zeros
pub unused_zero : (named : List Field) (entries : List Entry) (r : List ℕ) → AreEntered zeros entries r → ((k : ℕ) → InNone k named → InNone k
    (places entries)) →
    is_zero_but named r ≡ true
unused_zero named entries r made covered =
    zero_outside named 0 r (λ j m is out.
    let same : m ≡ j = omega (arith, is) in
    ap (λ i. byte_at r i) (sym same) ∙ other_bytes_stay entries zeros r made m (covered m out) ∙ zero_byte m)

-- a record whose link is of zeros is the same without its link
pub no_link : (l : Layout) (r : List ℕ) → HasOwnLink l → length r ≡ 176 → part r l.link.at l.link.width ≡ replicate l.link.width 0 → unlinked l r ≡ r
no_link l r own whole link =
    let within : l.link.at + l.link.width ≤ length r = (let w = own.fits.link.within in omega (arith, w, whole)) in
    sym (with_part_is l.link r (replicate {A = ℕ} l.link.width 0) within (length-replicate {A = ℕ} l.link.width 0) r link (nothing_changed l.link r))

pub zero_part : (f : Field) → IsWithin f → part zeros f.at f.width ≡ replicate f.width 0
zero_part f within =
    ap (take f.width) (drop-replicate {X = ℕ} f.at 176 0) ∙ take-replicate {X = ℕ} f.width (176 - f.at) 0 (omega (arith, within))

-- the other way round
pub turned : (f g : Field) → AreApart f g → AreApart g f
turned f g h = elim h [ inl a ↦ inr a | inr b ↦ inl b ]

-- a field that is apart from all that was entered
apart_from_last : (f g : Field) (fields : List Field) → list_all (λ h. is_apart g h) (fields ++ f ∷ []) ≡ true → is_apart g f ≡ true
apart_from_last f g [] h = (and_parts (is_apart g f) true h).0
apart_from_last f g (k ∷ fields) h =
    apart_from_last f g fields (and_parts (is_apart g k) (list_all (λ h. is_apart g h) (fields ++ f ∷ [])) h).1

pub untouched : (f : Field) (entries : List Entry) (old new : List ℕ) → AreEntered old entries new → all_apart (places entries ++ f ∷ []) ≡ true →
    part new f.at f.width ≡ part old f.at f.width
untouched f [] old new made away = ap (λ r. part r f.at f.width) made
untouched f (e ∷ entries) old new made away =
    let both = and_parts (list_all (λ g. is_apart (place e) g) (places entries ++ f ∷ [])) (all_apart (places entries ++ f ∷ [])) away in
    untouched f entries made.0 new made.3 both.1
    ∙ part_stays (place e) f old made.0 made.1 (turned f (place e) (apart (place e) f (apart_from_last f (place e) (places entries) both.0)))

-- of fields that are apart those behind the first three are
pub behind_three : (f g h : Field) (fields : List Field) → all_apart (f ∷ g ∷ h ∷ fields) ≡ true → all_apart fields ≡ true
behind_three f g h fields away =
    let two = (and_parts (list_all (λ k. is_apart f k) (g ∷ h ∷ fields)) (all_apart (g ∷ h ∷ fields)) away).1 in
    let one = (and_parts (list_all (λ k. is_apart g k) (h ∷ fields)) (all_apart (h ∷ fields)) two).1 in
    (and_parts (list_all (λ k. is_apart h k) fields) (all_apart fields) one).1
