-- Bits of rows, one by one.
use Rattle.std.proofs.Common.{◌≡◌, inl, inr, replicate, ◌∷◌, ◌∙◌, ◌+◌, ◌*◌, ◌-◌, ◌/◌, ◌%◌, ◌^◌, ◌<◌, ◌≤◌, ◌==◌, ℕ, zero, suc, Bool, true, false, List, []}
use Rattle.std.proofs.Common.{length, get_or, set, take, max, bit_and, bit_or, w64, refl, sym, ap, subst, ◌++◌, arith, get_or-set_same, get_or-set_other}
use Rattle.std.specs.Prelude.{◌||◌}
use Rattle.std.specs.List.{list_any}
use Rattle.std.specs.Int.{bit_at, bit_not}
use Rattle.std.proofs.lemmas.Bool.{cases_eq, cases_lt, eq-eqb}
use Rattle.std.proofs.Math.Seq.{take-append_seam}
use Rattle.std.proofs.lemmas.Nat.{and_le_l, or_lt}
use Rattle.std.proofs.lemmas.Nat.Bits.{bit_at-lt, bit_at-zero, bit_at_clear_other, bit_at_clear_same, bit_at_or, bit_at_set_other, bit_at_set_same}
use Rattle.packed_core.specs.Words.{AreWords, bit, bits_from, word_bit}

-- a bit is set
module _ (row : List ℕ) (i : ℕ) (within : i / 64 + 1 < length row) where
  abbrev pub word_marked : ℕ
  word_marked = bit_or (get_or row (i / 64 + 1) 0) (1 * 2 ^ (i % 64) % 2 ^ 64)

  abbrev pub marked : List ℕ
  marked = set row (i / 64 + 1) word_marked

  pub mark_here : bit marked i ≡ true
  mark_here =
      let small : i % 64 < 64 = omega arith in
      eq-eqb (word_bit marked i) 1 (ap (λ n. bit_at n (i % 64)) (get_or-set_same row (i / 64 + 1) word_marked 0 within)
      ∙ bit_at_set_same w64 (get_or row (i / 64 + 1) 0) (i % 64) small)

  pub mark_elsewhere : (k : ℕ) → (k ≡ i → ⊥) → bit marked k ≡ bit row k
  mark_elsewhere k apart =
      let small : i % 64 < 64 = omega arith in
      elim (cases_eq (k / 64 + 1) (i / 64 + 1)) [
        | inl same ↦ ap (λ n. n == 1) (ap (λ j. bit_at (get_or marked j 0) (k % 64)) same
            ∙ ap (λ n. bit_at n (k % 64)) (get_or-set_same row (i / 64 + 1) word_marked 0 within)
            ∙ bit_at_set_other w64 (get_or row (i / 64 + 1) 0) (i % 64) small (k % 64) (λ e. apart (omega arith))
            ∙ ap (λ j. bit_at (get_or row j 0) (k % 64)) (sym same))
        | inr other ↦ ap (λ n. bit_at n (k % 64) == 1) (get_or-set_other row (i / 64 + 1) (k / 64 + 1) word_marked 0 other)
      ]

  pub mark_within : ((j : ℕ) → get_or row j 0 < 2 ^ 64) → (j : ℕ) → get_or marked j 0 < 2 ^ 64
  mark_within fits j =
      elim (cases_eq j (i / 64 + 1)) [
        | inl same ↦ subst (λ n. n < 2 ^ 64) (sym (ap (λ n. get_or marked n 0) same ∙ get_or-set_same row (i / 64 + 1) word_marked 0 within))
            (or_lt 64 (get_or row (i / 64 + 1) 0) (1 * 2 ^ (i % 64) % 2 ^ 64) (fits (i / 64 + 1)) (omega arith))
        | inr other ↦ subst (λ n. n < 2 ^ 64) (sym (get_or-set_other row (i / 64 + 1) j word_marked 0 other)) (fits j)
      ]

-- a row without bits
pub no_bits : (row : List ℕ) → ((j : ℕ) → get_or row j 0 ≡ 0) → (k : ℕ) → bit row k ≡ false
no_bits row none k = ap (λ n. n == 1) (ap (λ n. bit_at n (k % 64)) (none (k / 64 + 1)) ∙ bit_at-zero (k % 64))

pub zeros : (n j : ℕ) → let words : List ℕ = replicate n 0 in get_or words j 0 ≡ 0
zeros zero j = refl
zeros (suc n) zero = refl
zeros (suc n) (suc j) = zeros n j

-- the first word is written
pub first_written : (row : List ℕ) (n k : ℕ) → bit (set row 0 n) k ≡ bit row k
first_written [] n k = refl
first_written (w ∷ row) n k = ap (λ m. bit_at m (k % 64) == 1) (get_or-set_other (w ∷ row) 0 (k / 64 + 1) n 0 (λ e. omega arith))

-- a bit is cleared
module _ (row : List ℕ) (i : ℕ) (within : i / 64 + 1 < length row) where
  abbrev pub word_cleared : ℕ
  word_cleared = bit_and (get_or row (i / 64 + 1) 0) (bit_not w64 (1 * 2 ^ (i % 64) % 2 ^ 64))

  abbrev pub cleared : List ℕ
  cleared = set row (i / 64 + 1) word_cleared

  pub clear_here : bit cleared i ≡ false
  clear_here =
      let small : i % 64 < 64 = omega arith in
      ap (λ n. n == 1) (ap (λ n. bit_at n (i % 64)) (get_or-set_same row (i / 64 + 1) word_cleared 0 within)
      ∙ bit_at_clear_same w64 (get_or row (i / 64 + 1) 0) (i % 64) small)

  pub clear_elsewhere : (k : ℕ) → (k ≡ i → ⊥) → bit cleared k ≡ bit row k
  clear_elsewhere k apart =
      let small : i % 64 < 64 = omega arith in
      let other : k % 64 < 64 = omega arith in
      elim (cases_eq (k / 64 + 1) (i / 64 + 1)) [
        | inl same ↦ ap (λ n. n == 1) (ap (λ j. bit_at (get_or cleared j 0) (k % 64)) same
            ∙ ap (λ n. bit_at n (k % 64)) (get_or-set_same row (i / 64 + 1) word_cleared 0 within)
            ∙ bit_at_clear_other w64 (get_or row (i / 64 + 1) 0) (i % 64) small (k % 64) other (λ e. apart (omega arith))
            ∙ ap (λ j. bit_at (get_or row j 0) (k % 64)) (sym same))
        | inr elsewhere ↦ ap (λ n. bit_at n (k % 64) == 1) (get_or-set_other row (i / 64 + 1) (k / 64 + 1) word_cleared 0 elsewhere)
      ]

  pub clear_within : AreWords row → AreWords cleared
  clear_within fits j =
      elim (cases_eq j (i / 64 + 1)) [
        | inl same ↦ subst (λ n. n < 2 ^ 64) (sym (ap (λ n. get_or cleared n 0) same ∙ get_or-set_same row (i / 64 + 1) word_cleared 0 within))
            (omega (arith, and_le_l (get_or row (i / 64 + 1) 0) (bit_not w64 (1 * 2 ^ (i % 64) % 2 ^ 64)), fits (i / 64 + 1)))
        | inr other ↦ subst (λ n. n < 2 ^ 64) (sym (get_or-set_other row (i / 64 + 1) j word_cleared 0 other)) (fits j)
      ]

-- bits in two pieces
pub any_pieces : (n m s : ℕ) (row : List ℕ) →
    list_any (λ b. b) (bits_from (n + m) s row) ≡ (list_any (λ b. b) (bits_from n s row) || list_any (λ b. b) (bits_from m (s + n) row))
any_pieces zero m s row =
    ap (λ k. list_any (λ b. b) (bits_from k s row)) (let e : 0 + m ≡ m = omega arith in e)
    ∙ ap (λ k. list_any (λ b. b) (bits_from m k row)) (let e : s ≡ s + 0 = omega arith in e)
any_pieces (suc n) m s row =
    ap (λ k. list_any (λ b. b) (bits_from k s row)) (let e : suc n + m ≡ suc (n + m) = omega arith in e)
    ∙ ap (λ b. bit row s || b) (any_pieces n m (suc s) row ∙ ap (λ k. list_any (λ b. b) (bits_from n (suc s) row) || list_any (λ b. b) (bits_from m k row))
    (let e : suc s + n ≡ s + suc n = omega arith in e))
    ∙ or_assoc (bit row s) (list_any (λ b. b) (bits_from n (suc s) row)) (list_any (λ b. b) (bits_from m (s + suc n) row))
  where
    or_assoc : (a b c : Bool) → (a || (b || c)) ≡ ((a || b) || c)
    or_assoc true b c = refl
    or_assoc false b c = refl

pub any_more : (n s : ℕ) (row : List ℕ) → list_any (λ b. b) (bits_from (n + 1) s row) ≡ (list_any (λ b. b) (bits_from n s row) || (bit row (s + n) || false))
any_more n s row = any_pieces n 1 s row

pub any_found : (n count s : ℕ) (row : List ℕ) → n < count → bit row (s + n) ≡ true → list_any (λ b. b) (bits_from count s row) ≡ true
any_found n count s row below here =
    ap (λ k. list_any (λ b. b) (bits_from k s row)) (let e : count ≡ n + suc (count - suc n) = omega arith in e)
    ∙ any_pieces n (suc (count - suc n)) s row
    ∙ ap (λ b. list_any (λ c. c) (bits_from n s row) || (b || list_any (λ c. c) (bits_from (count - suc n) (suc (s + n)) row))) here
    ∙ or_true (list_any (λ b. b) (bits_from n s row))
  where
    or_true : (b : Bool) → (b || true) ≡ true
    or_true true = refl
    or_true false = refl

one_of_two : (x y : ℕ) → x < 2 → y < 2 → (max x y == 1) ≡ (y == 1 || x == 1)
one_of_two zero zero h k = refl
one_of_two zero (suc zero) h k = refl
one_of_two (suc zero) zero h k = refl
one_of_two (suc zero) (suc zero) h k = refl
one_of_two zero (suc (suc y)) h k = absurd (omega arith)
one_of_two (suc zero) (suc (suc y)) h k = absurd (omega arith)
one_of_two (suc (suc x)) y h k = absurd (omega arith)

-- two rows joined
past_words : (row : List ℕ) (j : ℕ) → length row ≤ j → get_or row j 0 ≡ 0
past_words [] j h = refl
past_words (w ∷ row) zero h = absurd (omega arith)
past_words (w ∷ row) (suc j) h = past_words row j (omega arith)

module _ (row mask all : List ℕ) (same : length mask ≡ length row) (count : length all ≡ length row)
    (each : (j : ℕ) → j < length row → get_or all j 0 ≡ bit_or (get_or row j 0) (get_or mask j 0)) where
  pub at_word : (j : ℕ) → get_or all j 0 ≡ bit_or (get_or row j 0) (get_or mask j 0)
  at_word j =
      elim (cases_lt j (length row)) [
        | inl h ↦ each j h
        | inr h ↦ past_words all j (omega arith) ∙ sym (λ i. bit_or (past_words row j h i) (past_words mask j (let g : length mask ≤ j = omega arith in g) i))
      ]

  pub joined_bits : (k : ℕ) → bit all k ≡ (bit mask k || bit row k)
  joined_bits k =
      ap (λ n. bit_at n (k % 64) == 1) (at_word (k / 64 + 1))
      ∙ ap (λ n. n == 1) (bit_at_or (get_or row (k / 64 + 1) 0) (get_or mask (k / 64 + 1) 0) (k % 64))
      ∙ one_of_two (word_bit row k) (word_bit mask k) (bit_at-lt (get_or row (k / 64 + 1) 0) (k % 64)) (bit_at-lt (get_or mask (k / 64 + 1) 0) (k % 64))

  pub joined_words : AreWords row → AreWords mask → AreWords all
  joined_words h g j = subst (λ n. n < 2 ^ 64) (sym (at_word j)) (or_lt 64 (get_or row j 0) (get_or mask j 0) (h j) (g j))

-- one word more
pub one_word : (all : List ℕ) (w : ℕ) (P : ℕ → ℕ) (j : ℕ) → length all ≡ j → ((i : ℕ) → i < j → get_or all i 0 ≡ P i) → w ≡ P j →
    (i : ℕ) → i < j + 1 → get_or (all ++ w ∷ []) i 0 ≡ P i
one_word [] w P j count each here zero h = here ∙ ap P (let e : j ≡ 0 = omega (arith, count) in e)
one_word [] w P j count each here (suc i) h = absurd (omega (arith, count))
one_word (x ∷ all) w P j count each here zero h = each 0 (omega (arith, count))
one_word (x ∷ all) w P zero count each here (suc i) h = absurd (omega (arith, count))
one_word (x ∷ all) w P (suc j) count each here (suc i) h =
    one_word all w (λ k. P (suc k)) j (let e : length all ≡ j = omega (arith, count) in e) (λ k l. each (suc k) (omega arith)) here i (omega arith)

-- a row that was written through a slice
pub written : (row items : List ℕ) (n : ℕ) → length row ≡ n → take n (row ++ items) ≡ row
written row items n e = subst (λ m. take m (row ++ items) ≡ row) e (take-append_seam row items)
