-- Lines in one block of bytes. (This profile)
use Rattle.std.specs.Prelude.{ℕ, ◌+◌, List, [], ◌∷◌, take, drop}

-- the lines that have these lengths, one behind the other
abbrev pub cut : List ℕ → List ℕ → List (List ℕ)
cut [] bytes = []
cut (n ∷ lengths) bytes = take n bytes ∷ cut lengths (drop n bytes)

-- what they have together
abbrev pub total : List ℕ → ℕ
total [] = 0
total (n ∷ lengths) = n + total lengths
