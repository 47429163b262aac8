-- One more line of a block, and how many there are.
use Rattle.std.proofs.Common.{◌≡◌, ℕ, suc, ◌+◌, List, [], ◌∷◌, ◌++◌, length, take, drop, refl, sym, ap, arith, ◌∙◌}
use Rattle.std.proofs.lemmas.List.{drop-append-le, length-append, length-drop, take-append-le}
use Rattle.std.proofs.Math.Seq.{take-append_seam}
use Rattle.proc_library.specs.Lines.{cut, total}

pub total_more : (lengths : List ℕ) (n : ℕ) → total (lengths ++ n ∷ []) ≡ total lengths + n
total_more [] n = omega arith
total_more (m ∷ lengths) n = omega (arith, total_more lengths n)

pub as_many : (lengths bytes : List ℕ) → length (cut lengths bytes) ≡ length lengths
as_many [] bytes = refl
as_many (n ∷ lengths) bytes = ap suc (as_many lengths (drop n bytes))

whole : (line : List ℕ) → take (length line) line ≡ line
whole [] = refl
whole (b ∷ line) = ap (λ (bs : List ℕ). b ∷ bs) (whole line)

pub one_more : (lengths bytes line : List ℕ) → total lengths ≡ length bytes →
    cut (lengths ++ length line ∷ []) (bytes ++ line) ≡ cut lengths bytes ++ line ∷ []
one_more [] [] line same = ap (λ (l : List ℕ). l ∷ []) (whole line)
one_more [] (b ∷ bytes) line same = absurd (omega (arith, same))
one_more (n ∷ lengths) bytes line same =
    ap (λ (l : List ℕ). l ∷ cut (lengths ++ length line ∷ []) (drop n (bytes ++ line))) (take-append-le n bytes line (omega (arith, same)))
    ∙ ap (λ (rest : List ℕ). take n bytes ∷ cut (lengths ++ length line ∷ []) rest) (drop-append-le n bytes line (omega (arith, same)))
    ∙ ap (λ (ls : List (List ℕ)). take n bytes ∷ ls) (one_more lengths (drop n bytes) line (omega (arith, same, length-drop n bytes)))

-- the same of lists that are those
pub kept_more : (lengths bytes line more others : List ℕ) → total lengths ≡ length bytes → more ≡ lengths ++ length line ∷ [] → others ≡ bytes ++ line →
    (total more ≡ length others) × (cut more others ≡ cut lengths bytes ++ line ∷ [])
kept_more lengths bytes line more others same more_is others_is = (
  ap total more_is ∙ total_more lengths (length line) ∙ sum ∙ sym (ap (λ (bs : List ℕ). length bs) others_is),
  ap (λ (ls : List ℕ). cut ls others) more_is ∙ ap (λ (bs : List ℕ). cut (lengths ++ length line ∷ []) bs) others_is ∙ one_more lengths bytes line same,
)
  where
    sum : total lengths + length line ≡ length (bytes ++ line)
    sum = omega (arith, same, length-append bytes line)
