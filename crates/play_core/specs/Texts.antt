-- The session with the events that are added to it. (This profile)
use Rattle.std.specs.Prelude.{ℕ, ◌+◌, ◌==◌, Bool, false, not, List, [], ◌∷◌, ◌++◌, filter, length, if◌then◌else◌}
use Rattle.std.specs.List.{flat_map}
use Rattle.play_core.specs.Given.{line_of}
use Rattle.play_core.specs.declared.given.Given.{Given}

-- the last line has no line feed
abbrev pub is_open : List ℕ → Bool
is_open [] = false
is_open (b ∷ []) = not (b == 10)
is_open (b ∷ c ∷ text) = is_open (c ∷ text)

-- it gets one
abbrev pub ended : List ℕ → List ℕ
ended text = if is_open text then text ++ 10 ∷ [] else text

abbrev pub feeds_in : List ℕ → ℕ
feeds_in text = length (filter (λ b. b == 10) text)

-- the number of the line behind it
abbrev pub line_behind : List ℕ → ℕ
line_behind text = feeds_in (ended text) + 1

abbrev pub with_events : List ℕ → List Given → List ℕ
with_events text given = ended text ++ flat_map line_of given
