-- Words of marks: zeros have none, and one word that is written sets one mark.
use Rattle.std.proofs.Common.{◌≡◌, ◌≢◌, ◌+◌, ◌*◌, ◌/◌, ◌%◌, ◌^◌, ◌<◌, ◌==◌, ℕ, zero, suc, Bool, true, false, List, length, replicate}
use Rattle.std.proofs.Common.{get_or, set, bit_or, w64, refl, sym, ap, ◌∙◌, arith, inl, inr, get_or-set_same, get_or-set_other}
use Rattle.std.specs.Int.{bit_at}
use Rattle.std.proofs.lemmas.Bool.{cases_eq, eq-eqb}
use Rattle.std.proofs.lemmas.Nat.Bits.{bit_at-zero, bit_at_set_other, bit_at_set_same}
use Rattle.cb_walk.specs.Marks.{is_marked}

zero_words : (m j : ℕ) → let words : List ℕ = replicate m 0 in get_or words j 0 ≡ 0
zero_words zero j = refl
zero_words (suc m) zero = refl
zero_words (suc m) (suc j) = zero_words m j

pub none_marked : (words : List ℕ) (m : ℕ) → words ≡ replicate m 0 → (n : ℕ) → is_marked words n ≡ false
none_marked words m are n =
    ap (λ ws. is_marked ws n) are ∙ ap (λ w. bit_at w (n % 64) == 1) (zero_words m (n / 64)) ∙ ap (λ b. b == 1) (bit_at-zero (n % 64))

module _ (words : List ℕ) (n : ℕ) (within : n / 64 < length words) where
  abbrev pub word_marked : ℕ
  word_marked = bit_or (get_or words (n / 64) 0) (1 * 2 ^ (n % 64) % 2 ^ 64)

  abbrev pub marked : List ℕ
  marked = set words (n / 64) word_marked

  pub marked_here : is_marked marked n ≡ true
  marked_here =
      let small : n % 64 < 64 = omega arith in
      eq-eqb (bit_at (get_or marked (n / 64) 0) (n % 64)) 1 (ap (λ w. bit_at w (n % 64)) (get_or-set_same words (n / 64) word_marked 0 within)
      ∙ bit_at_set_same w64 (get_or words (n / 64) 0) (n % 64) small)

  pub marked_elsewhere : (k : ℕ) → k ≢ n → is_marked marked k ≡ is_marked words k
  marked_elsewhere k apart =
      let small : n % 64 < 64 = omega arith in
      elim (cases_eq (k / 64) (n / 64)) [
        | inl same ↦ ap (λ b. b == 1) (ap (λ i. bit_at (get_or marked i 0) (k % 64)) same
            ∙ ap (λ w. bit_at w (k % 64)) (get_or-set_same words (n / 64) word_marked 0 within)
            ∙ bit_at_set_other w64 (get_or words (n / 64) 0) (n % 64) small (k % 64) (λ e. apart (omega arith))
            ∙ ap (λ i. bit_at (get_or words i 0) (k % 64)) (sym same))
        | inr other ↦ ap (λ w. bit_at w (k % 64) == 1) (get_or-set_other words (n / 64) (k / 64) word_marked 0 other)
      ]
