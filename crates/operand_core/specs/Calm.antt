-- Texts without parentheses and apostrophes, and the keyword of a part as it is kept.
use Rattle.std.specs.Prelude.{ℕ, Bool, not, ◌||◌, ◌==◌, List, Option, Some, None}
use Rattle.std.specs.List.{list_any}

abbrev pub is_mark : ℕ → Bool
is_mark c = c == 40 || c == 41 || c == 39

abbrev pub is_calm : List ℕ → Bool
is_calm text = not (list_any is_mark text)

-- neither a comma nor a parenthesis nor an apostrophe
abbrev pub is_plain : ℕ → Bool
is_plain c = not (is_mark c || c == 44)

-- both, where both are there
abbrev pub pair_of : Option (List ℕ) → Option (List ℕ) → Option (List ℕ × List ℕ)
pair_of (Some key) (Some value) = Some (key, value)
pair_of None value = None
pair_of (Some key) None = None
