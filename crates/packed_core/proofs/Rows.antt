-- Rows that say the same.
use Rattle.std.proofs.Common.{◌≡◌, inl, inr, ◌++◌, ◌∷◌, ◌∙◌, ◌+◌, ◌*◌, ◌/◌, ◌-◌, ◌%◌, ◌<◌, ◌≤◌, ◌==◌, ℕ, zero, suc, Bool, false, List, [], length, get_or}
use Rattle.std.proofs.Common.{take, drop, refl, sym, ap, subst, arith}
use Rattle.std.specs.Int.{bit_at}
use Rattle.std.proofs.lemmas.Bool.{cases_lt}
use Rattle.std.proofs.lemmas.List.{get_or_default, same_lists}
use Rattle.std.proofs.lemmas.Nat.Bits.{bit_at-lt, same_from_bits_below}
use Rattle.packed_core.specs.declared.room.Room.{Room}
use Rattle.packed_core.specs.Words.{IsRow, bit, bits_from, met_of, word_bit}

pub length-bits : (n s : ℕ) (row : List ℕ) → length (bits_from n s row) ≡ n
length-bits zero s row = refl
length-bits (suc n) s row = ap suc (length-bits n (suc s) row)

-- the pieces of a list that was put together
pub front_of : {X : Type 0} (xs ys : List X) (n : ℕ) → length xs ≡ n → take n (xs ++ ys) ≡ xs
front_of [] ys zero e = none ys
  where
    none : {X : Type 0} (l : List X) → take 0 l ≡ []
    none [] = refl
    none (x ∷ l) = refl
front_of [] ys (suc n) e = absurd cc
front_of (x ∷ xs) ys zero e = absurd cc
front_of (x ∷ xs) ys (suc n) e = ap (λ l. x ∷ l) (front_of xs ys n (let h : length xs ≡ n = omega (arith, e) in h))

pub back_of : {X : Type 0} (xs ys : List X) (n : ℕ) → length xs ≡ n → drop n (xs ++ ys) ≡ ys
back_of [] ys zero e = all ys
  where
    all : {X : Type 0} (l : List X) → drop 0 l ≡ l
    all [] = refl
    all (x ∷ l) = refl
back_of [] ys (suc n) e = absurd cc
back_of (x ∷ xs) ys zero e = absurd cc
back_of (x ∷ xs) ys (suc n) e = back_of xs ys n (let h : length xs ≡ n = omega (arith, e) in h)

-- the first of so many bits are passed
pub drop_bits : (own n s : ℕ) (row : List ℕ) → drop own (bits_from (own + n) s row) ≡ bits_from n (s + own) row
drop_bits zero n s row =
    ap (λ k. drop 0 (bits_from k s row)) (let e : 0 + n ≡ n = omega arith in e) ∙ all (bits_from n s row)
    ∙ ap (λ k. bits_from n k row) (let e : s ≡ s + 0 = omega arith in e)
  where
    all : (l : List Bool) → drop 0 l ≡ l
    all [] = refl
    all (x ∷ l) = refl
drop_bits (suc own) n s row =
    ap (λ k. drop (suc own) (bits_from k s row)) (let e : suc own + n ≡ suc (own + n) = omega arith in e) ∙ drop_bits own n (suc s) row
    ∙ ap (λ k. bits_from n k row) (let e : suc s + own ≡ s + suc own = omega arith in e)

pub take_bits : (own n s : ℕ) (row : List ℕ) → take own (bits_from (own + n) s row) ≡ bits_from own s row
take_bits zero n s row = ap (λ k. take 0 (bits_from k s row)) (let e : 0 + n ≡ n = omega arith in e) ∙ none (bits_from n s row)
  where
    none : (l : List Bool) → take 0 l ≡ []
    none [] = refl
    none (x ∷ l) = refl
take_bits (suc own) n s row =
    ap (λ k. take (suc own) (bits_from k s row)) (let e : suc own + n ≡ suc (own + n) = omega arith in e)
    ∙ ap (λ l. bit row s ∷ l) (take_bits own n (suc s) row)

-- bits that two rows share
pub shared_bits : (n s : ℕ) (a b : List ℕ) → ((i : ℕ) → s ≤ i → i < s + n → bit a i ≡ bit b i) → bits_from n s a ≡ bits_from n s b
shared_bits zero s a b h = refl
shared_bits (suc n) s a b h = λ k. h s (omega arith) (omega arith) k ∷ shared_bits n (suc s) a b (λ i low high. h i (omega arith) (omega arith)) k

pub same_met : (room : Room) (a b : List ℕ) → ((i : ℕ) → 0 < i → bit a i ≡ bit b i) → met_of room a ≡ met_of room b
same_met room a b h = λ k. shared_bits room.job 1 a b (λ i low high. h i (omega arith)) k
    ++ shared_bits room.left (room.job + room.passed + 1) a b (λ i low high. h i (omega arith)) k

bit_from : (n s : ℕ) (a b : List ℕ) → bits_from n s a ≡ bits_from n s b → (i : ℕ) → i < n → bit a (s + i) ≡ bit b (s + i)
bit_from zero s a b e i h = absurd (omega arith)
bit_from (suc n) s a b e zero h = ap (λ k. bit a k) (let e : s + 0 ≡ s = omega arith in e) ∙ ap (λ (l : List Bool). get_or l 0 false) e
    ∙ ap (λ k. bit b k) (let e : s ≡ s + 0 = omega arith in e)
bit_from (suc n) s a b e (suc i) h = ap (λ k. bit a k) (let e : s + suc i ≡ suc s + i = omega arith in e)
    ∙ bit_from n (suc s) a b (ap (drop 1) e) i (omega arith)
    ∙ ap (λ k. bit b k) (let e : suc s + i ≡ s + suc i = omega arith in e)

pub bit_between : (n s : ℕ) (a b : List ℕ) → bits_from n s a ≡ bits_from n s b → (i : ℕ) → s ≤ i → i < s + n → bit a i ≡ bit b i
bit_between n s a b e i low high =
    let d : ℕ = i - s in
    let is : i ≡ s + d = omega arith in
    ap (λ k. bit a k) is ∙ bit_from n s a b e d (omega arith) ∙ ap (λ k. bit b k) (sym is)

one_or_none : (x y : ℕ) → x < 2 → y < 2 → (x == 1) ≡ (y == 1) → x ≡ y
one_or_none zero zero h k e = refl
one_or_none zero (suc zero) h k e = absurd cc
one_or_none (suc zero) zero h k e = absurd cc
one_or_none (suc zero) (suc zero) h k e = refl
one_or_none zero (suc (suc y)) h k e = absurd (omega arith)
one_or_none (suc zero) (suc (suc y)) h k e = absurd (omega arith)
one_or_none (suc (suc x)) y h k e = absurd (omega arith)

-- Two rows with one number and the same bits are one.
module _ (room : Room) (a b : List ℕ) (first : IsRow room a) (other : IsRow room b) (number : get_or a 0 0 ≡ get_or b 0 0)
    (abended : bit a 0 ≡ bit b 0) (job : bits_from room.job 1 a ≡ bits_from room.job 1 b)
    (left : bits_from room.left (room.job + room.passed + 1) a ≡ bits_from room.left (room.job + room.passed + 1) b) where
  each_bit : (i : ℕ) → bit a i ≡ bit b i
  each_bit zero = abended
  each_bit (suc i) =
      elim (cases_lt i room.job) [
        | inl h ↦ bit_between room.job 1 a b job (suc i) (omega arith) (omega arith)
        | inr h ↦ elim (cases_lt i (room.job + room.passed)) [
          | inl g ↦ first.gap (suc i) (omega arith) (omega arith) ∙ sym (other.gap (suc i) (omega arith) (omega arith))
          | inr g ↦ elim (cases_lt i (room.job + room.passed + room.left)) [
            | inl f ↦ bit_between room.left (room.job + room.passed + 1) a b left (suc i) (omega arith) (omega arith)
            | inr f ↦ first.beyond (suc i) (omega arith) ∙ sym (other.beyond (suc i) (omega arith))
          ]
        ]
      ]

  each_word : (j : ℕ) → get_or a j 0 ≡ get_or b j 0
  each_word zero = number
  each_word (suc j) =
      same_from_bits_below 64 (get_or a (suc j) 0) (get_or b (suc j) 0) (first.within (suc j)) (other.within (suc j))
      (λ i h.
      let place : (64 * j + i) / 64 + 1 ≡ suc j = omega arith in
      let rest : (64 * j + i) % 64 ≡ i = omega arith in
      sym (λ k. bit_at (get_or a (place k) 0) (rest k))
      ∙ one_or_none (word_bit a (64 * j + i)) (word_bit b (64 * j + i)) (bit_at-lt (get_or a ((64 * j + i) / 64 + 1) 0) ((64 * j + i) % 64))
      (bit_at-lt (get_or b ((64 * j + i) / 64 + 1) 0) ((64 * j + i) % 64)) (each_bit (64 * j + i))
      ∙ (λ k. bit_at (get_or b (place k) 0) (rest k)))

  pub same_row : a ≡ b
  same_row =
      same_lists a b (first.size ∙ sym other.size)
      (λ k d h. get_or_default a k d 0 h ∙ each_word k ∙ get_or_default b k 0 d (subst (λ n. k < n) (first.size ∙ sym other.size) h))
