-- Rows and fields as the reading of a text takes them, one after another. (This profile)
use Rattle.std.specs.Prelude.{ℕ, ◌==◌, List, [], ◌∷◌, length, Option, Some, None, if◌then◌else◌}
use Rattle.session_text.specs.declared.statement.Ending.{Ending}
use Rattle.session_text.specs.declared.statement.Ending.TheVariants.{Whole, TooLong, ReadFailed}

-- the line that a text without a line feed is
abbrev pub rest_of : Ending → List ℕ → List (List ℕ)
rest_of Whole text = if length text == 0 then [] else text ∷ []
rest_of TooLong text = []
rest_of ReadFailed text = []

-- the one, where there is one alone
abbrev pub only_of : List (List ℕ) → Option (List ℕ)
only_of (x ∷ []) = Some x
only_of _ = None

-- the two, where there are two
abbrev pub two_of : List (List ℕ) → Option (List ℕ × List ℕ)
two_of (x ∷ y ∷ []) = Some (x, y)
two_of _ = None

-- the three, where there are three
abbrev pub three_of : List (List ℕ) → Option (List ℕ × List ℕ × List ℕ)
three_of (x ∷ y ∷ z ∷ []) = Some (x, y, z)
three_of _ = None
