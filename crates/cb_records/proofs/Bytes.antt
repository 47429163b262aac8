-- The bytes of numbers and of texts.
use Rattle.std.proofs.Common.{◌≡◌, ℕ, zero, suc, ◌+◌, ◌-◌, ◌*◌, ◌/◌, ◌%◌, ◌^◌, ◌<◌, ◌≤◌, List, [], ◌∷◌, ◌++◌, length, take, drop, replicate, arith, ◌∙◌, ap}
use Rattle.std.proofs.Math.Seq.{take-append-add}
use Rattle.std.proofs.lemmas.List.{take-replicate}
use Rattle.cb_meaning.specs.Fields.{filled, number_of}

-- a number of at most four bytes, and one byte more, is one of 32 bits
pub more_fits : (i n b : ℕ) → i < 4 → n < 256 ^ i → b < 256 → n * 256 + b < 4294967296
more_fits zero n b h p q = let small : n < 1 = p in omega arith
more_fits (suc zero) n b h p q = let small : n < 256 = p in omega arith
more_fits (suc (suc zero)) n b h p q = let small : n < 65536 = p in omega arith
more_fits (suc (suc (suc zero))) n b h p q = let small : n < 16777216 = p in omega arith
more_fits (suc (suc (suc (suc i)))) n b h p q = absurd (omega arith)

-- the last bytes of four give the number that they hold
abbrev pub four_bytes : ℕ → List ℕ
four_bytes n = n / 16777216 % 256 ∷ n / 65536 % 256 ∷ n / 256 % 256 ∷ n % 256 ∷ []

pub last_bytes : (w n : ℕ) → w ≤ 4 → n < 256 ^ w → number_of (take (4 - (4 - w)) (drop (4 - w) (four_bytes n))) ≡ n
last_bytes zero n h p = let small : n < 1 = p in omega arith
last_bytes (suc zero) n h p = let small : n < 256 = p in omega arith
last_bytes (suc (suc zero)) n h p = let small : n < 65536 = p in omega arith
last_bytes (suc (suc (suc zero))) n h p = let small : n < 16777216 = p in omega arith
last_bytes (suc (suc (suc (suc zero)))) n h p = let small : n < 4294967296 = p in omega arith
last_bytes (suc (suc (suc (suc (suc w))))) n h p = absurd (omega arith)

-- the first bytes of a text that is filled further
pub first_filled : (w n : ℕ) (text : List ℕ) → length text ≤ w → w ≤ n → take w (filled n text) ≡ filled w text
first_filled w n text h p =
    let k = w - length text in
    let is : w ≡ length text + k = omega arith in
    let most : k ≤ n - length text = omega arith in
    ap (λ m. take m (filled n text)) is ∙ take-append-add text (replicate (n - length text) 32) k ∙ ap (λ ys. text ++ ys) (take-replicate {X =
    ℕ} k (n - length text) 32 most)
