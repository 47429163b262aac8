-- What is told of the lines of a session above a deck that stands alone, so that they are not taken for lines of the deck. (This profile)
use Rattle.std.specs.Prelude.{ℕ, ◌-◌, nat_lt, Bool, List, [], ◌∷◌, ◌++◌, codes, drop, if◌then◌else◌}
use Rattle.mvt_check.specs.Brief.{begins_finding, lines_of}

-- A line is above a deck that stands alone, where so many lines are, the last of them the deck's `./ READ`. None is where no deck stands alone.
abbrev pub is_above : ℕ → ℕ → Bool
is_above above line = nat_lt line above

-- the number that is told of a line: above such a deck that of the session, else that of the deck, whose first card is on line 1
abbrev pub told_line : ℕ → ℕ → ℕ
told_line above line = if is_above above line then line else line - above

-- what is written at the end of a line: of one that begins a finding, that this is above the deck
abbrev pub end_of : List ℕ → List ℕ
end_of line = if begins_finding line then codes ", above the deck" else []

abbrev pub line_above : List ℕ → List ℕ
line_above line = line ++ end_of line

-- lines, a line feed in front of each
abbrev pub lines_above : List (List ℕ) → List ℕ
lines_above [] = []
lines_above (line ∷ lines) = 10 ∷ line_above line ++ lines_above lines

-- a text whose findings say so
abbrev pub text_above : List ℕ → List ℕ
text_above text = drop 1 (lines_above (lines_of text))

-- what is told of a line of the text that is looked at
abbrev pub told_at : ℕ → ℕ → List ℕ → List ℕ
told_at above line text = if is_above above line then text_above text else text
