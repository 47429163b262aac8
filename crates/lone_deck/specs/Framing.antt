-- The text that is looked at where a deck stands alone behind a session: the same with `./ READ` and `./ END` round the deck. (This profile)
use Rattle.std.specs.Prelude.{◌≡◌, ⊤, ℕ, zero, suc, ◌+◌, ◌<◌, ◌==◌, nat_eq, Bool, true, false, ◌&&◌, List, [], ◌∷◌, ◌++◌, codes, count_by, length, take, drop, Option, Some, None, if◌then◌else◌}
use Rattle.std.specs.List.{ends_with, slice_get, starts_with}
use Rattle.std.specs.Option.{option_map_or}
use Rattle.session_text.specs.declared.statement.Ending.{Ending}
use Rattle.session_text.specs.declared.statement.Says.{Says}
use Rattle.session_text.specs.declared.statement.Says.TheVariants as says
use Rattle.session_text.specs.declared.statement.Statement.{Statement}
use Rattle.session_text.specs.Statements.{statements_of}
use Rattle.lone_deck.specs.declared.Framed.{Framed}

abbrev pub is_line_end : ℕ → Bool
is_line_end c = c == 10

-- a line begins behind so many characters of a text
abbrev pub begins_line : List ℕ → ℕ → Bool
begins_line text zero = true
begins_line text (suc n) = option_map_or is_line_end (slice_get text n) false

-- a line that begins there is a card of a statement
abbrev pub begins_card : List ℕ → ℕ → Bool
begins_card text n = begins_line text n && starts_with nat_eq (drop n text) (codes "//")

-- the number of the line behind so many characters
abbrev pub line_at : List ℕ → ℕ → ℕ
line_at text n = count_by is_line_end (take n text) + 1

-- a card of a statement begins there, on the line of this number
abbrev pub is_card_on : ℕ → List ℕ → ℕ → Bool
is_card_on line text n = begins_card text n && (line_at text n == line)

abbrev pub is_refused_line : Says → Bool
is_refused_line (says.Refused fault) = true
is_refused_line other = false

-- The first line that is no statement of a session: a card outside of all blocks is none.
abbrev pub refused_line : List Statement → Option ℕ
refused_line [] = None
refused_line (s ∷ statements) = if is_refused_line s.says then Some s.line else refused_line statements

-- behind how many characters a deck begins that stands alone: on the first line that is no statement, if that is a card
abbrev pub IsDeckPlace : Option ℕ → List ℕ → Option ℕ → Type 0
IsDeckPlace None text None = ⊤
IsDeckPlace None text (Some place) = ⊥
IsDeckPlace (Some line) text None = (n : ℕ) → n < length text → is_card_on line text n ≡ false
IsDeckPlace (Some line) text (Some place) = (place < length text) × (is_card_on line text place ≡ true)

-- what ends the block of a deck, on a line of its own
abbrev pub end_of : List ℕ → List ℕ
end_of deck = if ends_with nat_eq deck (codes "\n") then codes "./ END\n" else codes "\n./ END\n"

abbrev pub framed : Option ℕ → List ℕ → List ℕ
framed None text = text
framed (Some place) text = take place text ++ codes "./ READ\n" ++ drop place text ++ end_of (drop place text)

-- how many lines stand before the deck, with its `./ READ`
abbrev pub lines_above : Option ℕ → List ℕ → ℕ
lines_above None text = 0
lines_above (Some place) text = line_at text place

-- The text that is looked at, and from which line on the cards of a deck are counted. Where no deck stands alone it is the session's own text, and lines are
-- counted from its beginning.
abbrev pub IsFramed : Bool → Ending → List ℕ → Framed → Type 0
IsFramed false ending text f = (f.text.items ≡ text) × (f.above ≡ 0)
IsFramed true ending text f = (place : Option ℕ) × IsDeckPlace (refused_line (statements_of ending text)) text place
    × (f.text.items ≡ framed place text) × (f.above ≡ lines_above place text)
