-- A record of which a field was filled with zeros.
use Rattle.std.proofs.Common.{rules, ◌≡◌, ℕ, suc, ◌+◌, ◌-◌, ◌<◌, ◌≤◌, ◌==◌, Bool, true, false, ◌&&◌, ◌||◌, cond, nat_le, nat_lt, List, [], ◌∷◌, length, drop, get_or, min, replicate, refl, inl, inr, ◌⊎◌, ap, subst, ◌∙◌, arith}
use Rattle.std.proofs.lemmas.Bool.{and_cases, and_parts, cases_lt, leb-false, leb-true, ltb-false, ltb-true}
use Rattle.std.proofs.lemmas.List.{drop_all, places}
use borrow.Rule.Slice.PartMut.{put_mid}
use Rattle.std.specs.List.{list_all, list_any}
use Rattle.cb_meaning.specs.declared.layout.Field.{Field}
use Rattle.cb_meaning.specs.Fields.{byte_at, is_in, is_zero_but, zero_from}

-- a byte of the field is zero, another is as it was
one_byte : (a b : Bool) (x y : ℕ) → y ≡ cond a 0 x → (b || y == 0) ≡ ((a || b) || x == 0)
one_byte true true x y h = refl
one_byte true false x y h = ap (λ n. n == 0) h
one_byte false b x y h = ap (λ n. b || n == 0) h

cleared_from : (f : Field) (fs : List Field) (k : ℕ) (xs ys : List ℕ) → length ys ≡ length xs →
    ((m j : ℕ) → m ≡ k + j → get_or ys j 0 ≡ cond (is_in f m) 0 (get_or xs j 0)) → zero_from fs k ys ≡ zero_from (f ∷ fs) k xs
cleared_from f fs k [] [] e h = refl
cleared_from f fs k [] (y ∷ ys) e h = absurd (omega arith)
cleared_from f fs k (x ∷ xs) [] e h = absurd (omega arith)
cleared_from f fs k (x ∷ xs) (y ∷ ys) e h =
    ap (λ b. b && zero_from fs (k + 1) ys) (one_byte (is_in f k) (list_any (λ g. is_in g k) fs) x y (h k 0 (omega arith)))
    ∙ ap (λ b. (list_any (λ g. is_in g k) (f ∷ fs) || x == 0) && b) (cleared_from f fs (k + 1) xs ys (omega arith) (λ m j at. h m (suc j) (omega arith)))

-- the field need not be named any more
pub cleared : (f : Field) (fs : List Field) (old new : List ℕ) → length new ≡ length old →
    ((k : ℕ) → byte_at new k ≡ cond (is_in f k) 0 (byte_at old k)) → is_zero_but fs new ≡ is_zero_but (f ∷ fs) old
cleared f fs old new e h = cleared_from f fs 0 old new e (λ m j at. subst (λ n. get_or new j 0 ≡ cond (is_in f n) 0 (get_or old j 0)) (from_zero j m at) (h j))
  where
    from_zero : (j m : ℕ) → m ≡ 0 + j → j ≡ m
    from_zero j m at = omega (arith, at)

-- no field is named any more
zeros_from : (k : ℕ) (xs : List ℕ) → zero_from [] k xs ≡ list_all (λ b. b == 0) xs
zeros_from k [] = refl
zeros_from k (x ∷ xs) = ap (λ b. x == 0 && b) (zeros_from (k + 1) xs)

-- where none is left, the whole decides
pub all_zero : (named : List Field) (i : ℕ) (xs : List ℕ) → length named ≤ i → is_zero_but (drop i named) xs ≡ list_all (λ b. b == 0) xs
all_zero named i xs past = ap (λ fs. is_zero_but fs xs) (drop_all i named past) ∙ zeros_from 0 xs

-- a part that was filled with zeros
in_part : (xs : List ℕ) (a n k : ℕ) → a + n ≤ length xs → a ≤ k → k < a + n → get_or (put_mid a n xs (replicate n 0)) k 0 ≡ 0
in_part xs a n k h from to = search (rules, places)

before_part : (xs : List ℕ) (a n k : ℕ) → a + n ≤ length xs → k < a → get_or (put_mid a n xs (replicate n 0)) k 0 ≡ get_or xs k 0
before_part xs a n k h to = search (rules, places)

behind_part : (xs : List ℕ) (a n k : ℕ) → a + n ≤ length xs → a + n ≤ k → get_or (put_mid a n xs (replicate n 0)) k 0 ≡ get_or xs k 0
behind_part xs a n k h from = search (rules, places)

past_end : (xs : List ℕ) (k : ℕ) → length xs ≤ k → get_or xs k 0 ≡ 0
past_end xs k h = search (rules, places)

-- a field, as far as it lies in a list
record Clamped (f : Field) (xs : List ℕ) (from to : ℕ) : Type 0 where
  start : from ≡ min f.at (length xs)
  end : to ≡ min (from + f.width) (length xs)

in_field : (f : Field) (xs : List ℕ) (from to k : ℕ) → Clamped f xs from to → (f.at ≤ k) × (k < f.at + f.width) →
    get_or (put_mid from (to - from) xs (replicate (to - from) 0)) k 0 ≡ 0
in_field f xs from to k c p =
    let start = c.start in
    let end = c.end in
    let low = p.0 in
    let high = p.1 in
    let within : from + (to - from) ≤ length xs = omega arith in
    elim (cases_lt k to) [
      | inl before ↦ in_part xs from (to - from) k within (omega arith) (omega arith)
      | inr past ↦ behind_part xs from (to - from) k within (omega arith) ∙ past_end xs k (omega arith)
    ]

in_none : (f : Field) (xs : List ℕ) (from to k : ℕ) → Clamped f xs from to → (k < f.at) ⊎ (f.at + f.width ≤ k) →
    get_or (put_mid from (to - from) xs (replicate (to - from) 0)) k 0 ≡ get_or xs k 0
in_none f xs from to k c p =
    let start = c.start in
    let end = c.end in
    let within : from + (to - from) ≤ length xs = omega arith in
    elim (cases_lt k from) [
      | inl before ↦ before_part xs from (to - from) k within before
      | inr past ↦ behind_part xs from (to - from) k within (elim p [
        | inl low ↦ omega arith
        | inr high ↦ omega arith
      ])
    ]

at_byte : (f : Field) (xs : List ℕ) (from to k : ℕ) → Clamped f xs from to → (b : Bool) → is_in f k ≡ b →
    get_or (put_mid from (to - from) xs (replicate (to - from) 0)) k 0 ≡ cond b 0 (get_or xs k 0)
at_byte f xs from to k c true e =
    let p = and_parts (nat_le f.at k) (nat_lt k (f.at + f.width)) e in
    in_field f xs from to k c (leb-true f.at k p.0, ltb-true k (f.at + f.width) p.1)
at_byte f xs from to k c false e = in_none f xs from to k c (elim (and_cases (nat_le f.at k) (nat_lt k (f.at + f.width)) e) [
  | inl low ↦ inl (leb-false f.at k low)
  | inr high ↦ inr (ltb-false k (f.at + f.width) high)
])

-- each byte behind the filling of a field
pub byte_cleared : (f : Field) (xs ys : List ℕ) (from to : ℕ) → from ≡ min f.at (length xs) → to ≡ min (from + f.width) (length xs) →
    ys ≡ replicate (to - from) 0 → (k : ℕ) → get_or (put_mid from (to - from) xs ys) k 0 ≡ cond (is_in f k) 0 (get_or xs k 0)
byte_cleared f xs ys from to start end zeros k =
    ap (λ zs. get_or (put_mid from (to - from) xs zs) k 0) zeros ∙ at_byte f xs from to k (record { start = start; end = end }) (is_in f k) refl
