-- Which statements of a session read decks. (This profile)
use Rattle.std.specs.Prelude.{ℕ, ◌+◌, Bool, true, false, List, [], ◌∷◌, if◌then◌else◌}
use Rattle.session_input.specs.declared.event.Event.{Event}
use Rattle.session_input.specs.declared.event.Event.TheVariants as event
use Rattle.session_text.specs.declared.statement.Says.{Says}
use Rattle.session_text.specs.declared.statement.Says.TheVariants as says
use Rattle.session_text.specs.declared.statement.Statement.{Statement}

-- a statement reads a deck
abbrev pub is_read : Event → Bool
is_read (event.Read deck) = true
is_read other = false

abbrev pub reads : Says → Bool
reads (says.Events e times) = is_read e
reads (says.Config s has_end) = false
reads (says.Refused f) = false

-- which statements read decks, where the first has this number
abbrev pub reading_from : ℕ → List Statement → List ℕ
reading_from at [] = []
reading_from at (s ∷ statements) = if reads s.says then at ∷ reading_from (at + 1) statements else reading_from (at + 1) statements
