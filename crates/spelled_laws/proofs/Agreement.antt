-- Two records with the same fields, and zeros elsewhere, agree but for what is open.
use Rattle.std.proofs.Common.{◌≡◌, ◌≤◌, ◌<◌, ◌+◌, ◌*◌, ◌==◌, ◌||◌, inl, inr, arith, ℕ, zero, suc, true, false, List, [], ◌∷◌, length, drop, refl, sym, ap, ◌∙◌, eqb-true, ltb-true, leb-true, subst}
use Rattle.std.specs.Prelude.{All, fold, nat_le, nat_lt}
use Rattle.std.specs.List.{list_any}
use Rattle.std.proofs.lemmas.Bool.{and_from, and_parts, cases_Bool, cases_lt, le-leb, lt-ltb, or_cases}
use Rattle.std.proofs.lemmas.List.Elements.{All-drop, All-head, All-tail, All-take}
use Rattle.cb_meaning.specs.declared.layout.Field.{Field}
use Rattle.cb_meaning.specs.Fields.{byte_at, field, is_in, is_zero_but, number_at, part, zero_from}
use Rattle.walk_laws.specs.WalkLaws.{IsRecord}
use Rattle.world_meaning.specs.Records.{AgreeBut}

abbrev IsByte : ℕ → Type 0
IsByte b = b < 256

-- a number has one spelling in so many bytes
same_bytes : (xs ys : List ℕ) (a b : ℕ) → length xs ≡ length ys → All IsByte xs → All IsByte ys →
    fold (λ n c. n * 256 + c) a xs ≡ fold (λ n c. n * 256 + c) b ys → (a ≡ b) × (xs ≡ ys)
same_bytes [] [] a b size p q e = (e, refl)
same_bytes [] (y ∷ ys) a b size p q e = absurd cc
same_bytes (x ∷ xs) [] a b size p q e = absurd cc
same_bytes (x ∷ xs) (y ∷ ys) a b size p q e =
    let rest : length xs ≡ length ys = cc in
    let low : x < 256 = All-head IsByte x xs p in
    let low_too : y < 256 = All-head IsByte y ys q in
    let r : (a * 256 + x ≡ b * 256 + y) × (xs ≡ ys) =
    same_bytes xs ys (a * 256 + x) (b * 256 + y) rest (All-tail IsByte x xs p) (All-tail IsByte y ys q) e in
    let i : a ≡ b = omega (arith, r.0, low, low_too) in
    let j : x ≡ y = omega (arith, r.0, low, low_too) in
    (i, λ k. j k ∷ r.1 k)

-- parts of records of one size are of one size
part_size : (r s : List ℕ) (at width : ℕ) → length s ≡ length r → length (part s at width) ≡ length (part r at width)
part_size [] [] at width e = refl
part_size [] (y ∷ s) at width e = absurd cc
part_size (x ∷ r) [] at width e = absurd cc
part_size (x ∷ r) (y ∷ s) zero zero e = refl
part_size (x ∷ r) (y ∷ s) zero (suc width) e =
    let rest : length s ≡ length r = cc in
    let i : length (part s zero width) ≡ length (part r zero width) = part_size r s zero width rest in
    omega (arith, i)
part_size (x ∷ r) (y ∷ s) (suc at) width e = let rest : length s ≡ length r = cc in part_size r s at width rest

-- the bytes of a part that is the same
part_byte : (r s : List ℕ) (at width k : ℕ) → length s ≡ length r → part s at width ≡ part r at width → at ≤ k → k < at + width → byte_at s k ≡ byte_at r k
part_byte [] [] at width k size e low high = refl
part_byte [] (y ∷ s) at width k size e low high = absurd cc
part_byte (x ∷ r) [] at width k size e low high = absurd cc
part_byte (x ∷ r) (y ∷ s) zero zero k size e low high = absurd (omega (arith, high))
part_byte (x ∷ r) (y ∷ s) zero (suc width) zero size e low high = let first : y ≡ x = cc in first
part_byte (x ∷ r) (y ∷ s) zero (suc width) (suc k) size e low high =
    let rest : part s zero width ≡ part r zero width = cc in
    let size_rest : length s ≡ length r = cc in
    part_byte r s zero width k size_rest rest (omega arith) (omega (arith, high))
part_byte (x ∷ r) (y ∷ s) (suc at) width zero size e low high = absurd (omega (arith, low))
part_byte (x ∷ r) (y ∷ s) (suc at) width (suc k) size e low high =
    let size_rest : length s ≡ length r = cc in
    part_byte r s at width k size_rest e (omega (arith, low)) (omega (arith, high))

-- a byte in no named field is zero
zero_out : (named : List Field) (r : List ℕ) (at j k : ℕ) → k ≡ at + j → j < length r → zero_from named at r ≡ true → list_any (λ f. is_in f k) named ≡ false →
    byte_at r j ≡ 0
zero_out named [] at j k e within z out = absurd (omega (arith, within))
zero_out named (x ∷ r) at zero k e within z out =
    let is : k ≡ at = omega (arith, e) in
    let first : (list_any (λ f. is_in f at) named || x == 0) ≡ true =
    (and_parts (list_any (λ f. is_in f at) named || x == 0) (zero_from named (at + 1) r) z).0 in
    eqb-true x 0 (sym (ap (λ b. b || x == 0) (sym (ap (λ m. list_any (λ f. is_in f m) named) is) ∙ out)) ∙ first)
zero_out named (x ∷ r) at (suc j) k e within z out =
    zero_out named r (at + 1) j k (omega (arith, e)) (omega (arith, within))
    (and_parts (list_any (λ f. is_in f at) named || x == 0) (zero_from named (at + 1) r) z).1 out

-- past the end
past : (r s : List ℕ) (k : ℕ) → length s ≡ length r → length r ≤ k → byte_at s k ≡ byte_at r k
past [] [] k size h = refl
past [] (y ∷ s) k size h = absurd cc
past (x ∷ r) [] k size h = absurd cc
past (x ∷ r) (y ∷ s) zero size h = absurd (omega (arith, h))
past (x ∷ r) (y ∷ s) (suc k) size h = let rest : length s ≡ length r = cc in past r s k rest (omega (arith, h))

module _ (opens : List Field) (r s : List ℕ) (whole : IsRecord r) (whole_too : IsRecord s) where
  -- both are of one size
  same_size : length s ≡ length r
  same_size = whole_too.size ∙ sym whole.size

  -- the bytes of a field that are not open agree
  abbrev pub Fine : Field → Type 0
  Fine f = (k : ℕ) → is_in f k ≡ true → list_any (λ g. is_in g k) opens ≡ false → byte_at s k ≡ byte_at r k

  -- those of each of these fields do
  abbrev pub AllFine : List Field → Type 0
  AllFine [] = Unit {0}
  AllFine (f ∷ fs) = Fine f × AllFine fs

  -- where a byte of a field stands
  within : (f : Field) (k : ℕ) → is_in f k ≡ true → (f.at ≤ k) × (k < f.at + f.width)
  within f k e = let b = and_parts (nat_le f.at k) (nat_lt k (f.at + f.width)) e in (leb-true f.at k b.0, ltb-true k (f.at + f.width) b.1)

  -- a field of a width, by its part, by its number, or by its one byte
  pub by_part : (f : Field) → part s f.at f.width ≡ part r f.at f.width → Fine f
  by_part f e k is out = let w = within f k is in part_byte r s f.at f.width k same_size e w.0 w.1

  pub by_number : (f : Field) → number_at s f ≡ number_at r f → Fine f
  by_number f e = by_part f (same_bytes (part s f.at f.width) (part r f.at f.width) 0 0 (part_size r s f.at f.width same_size)
      (All-take IsByte f.width (drop f.at s) (All-drop IsByte f.at s whole_too.bytes))
      (All-take IsByte f.width (drop f.at r) (All-drop IsByte f.at r whole.bytes)) e).1

  pub by_byte : (at : ℕ) → byte_at s at ≡ byte_at r at → Fine (field at 1)
  by_byte at e k is out =
      let w = within (field at 1) k is in
      let same : at ≡ k = omega (arith, w.0, w.1) in
      subst (λ (z : ℕ). byte_at s z ≡ byte_at r z) same e

  -- one field in front of another
  pub by_two : (at one other : ℕ) → Fine (field at one) → Fine (field (at + one) other) → Fine (field at (one + other))
  by_two at one other f g k is out =
      let w = within (field at (one + other)) k is in
      elim (cases_lt k (at + one)) [
        | inl low ↦ f k (and_from (nat_le at k) (nat_lt k (at + one)) (le-leb at k w.0) (lt-ltb k (at + one) low)) out
        | inr high ↦ let end : k < at + one + other = omega (arith, w.1) in
            g k (and_from (nat_le (at + one) k) (nat_lt k (at + one + other)) (le-leb (at + one) k high) (lt-ltb k (at + one + other) end)) out
      ]

  -- a field all of which is open
  pub by_open : (f : Field) → ((k : ℕ) → is_in f k ≡ true → list_any (λ g. is_in g k) opens ≡ true) → Fine f
  by_open f h k is out = let clash : true ≡ false = sym (h k is) ∙ out in absurd cc

  -- a byte in one of these fields
  at_field : (named : List Field) → AllFine named → (k : ℕ) → list_any (λ f. is_in f k) named ≡ true → list_any (λ g. is_in g k) opens ≡ false →
      byte_at s k ≡ byte_at r k
  at_field [] fine k is out = absurd cc
  at_field (f ∷ fs) fine k is out =
      elim (or_cases (is_in f k) (list_any (λ g. is_in g k) fs) is) [
        | inl here ↦ fine.0 k here out
        | inr other ↦ at_field fs fine.1 k other out
      ]

  -- Records whose fields agree, and that are zero but in these, agree.
  pub agree_by : (named : List Field) → AllFine named → is_zero_but named r ≡ true → is_zero_but named s ≡ true → AgreeBut opens r s
  agree_by named fine zr zs = record {
    size = same_size;
    bytes = λ k out. elim (cases_lt k (length r)) [
      | inr beyond ↦ past r s k same_size beyond
      | inl here ↦ elim (cases_Bool (list_any (λ f. is_in f k) named)) [
        | inl is ↦ at_field named fine k is out
        | inr none ↦ let there : k < length s = omega (arith, here, same_size) in
            zero_out named s 0 k k (omega arith) there zs none ∙ sym (zero_out named r 0 k k (omega arith) here zr none)
      ]
    ];
  }
