-- Records by their texts, which lie one after another, each without blanks at its end. (This profile: records of 80 columns)
use Rattle.std.specs.Prelude.{ℕ, ◌+◌, ◌-◌, ◌≤◌, ◌≡◌, zero, suc, List, [], ◌∷◌, ◌++◌, length, take, drop, replicate}

-- the record that a text spells: filled with blanks to 80 columns
abbrev pub filled : List ℕ → List ℕ
filled text = text ++ replicate (80 - length text) 32

-- those whose texts end at such places, where the first text begins at a place
abbrev pub records_from : ℕ → List ℕ → List ℕ → List (List ℕ)
records_from start text [] = []
records_from start text (end ∷ ends) = filled (take (end - start) (drop start text)) ∷ records_from end text ends

-- the places rise by at most 80, up to a last one
abbrev pub AreEnds : ℕ → ℕ → List ℕ → Type 0
AreEnds start last [] = start ≡ last
AreEnds start last (end ∷ ends) = (start ≤ end) × (end ≤ start + 80) × AreEnds end last ends

-- where the text of a number begins: where the one before it ends
abbrev pub start_of : ℕ → List ℕ → ℕ → ℕ
start_of start ends zero = start
start_of start [] (suc place) = start
start_of start (end ∷ ends) (suc place) = start_of end ends place
