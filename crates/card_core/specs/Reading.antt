-- What the parts of the reading say.
use Rattle.std.specs.Prelude.{◌≡◌, ℕ, Bool, List, ◌∷◌, ◌++◌, map, drop, Option, Some, None, Result, Ok, Err}
use Rattle.card_core.specs.declared.fault.CardFault.{CardFault}
use Rattle.card_core.specs.declared.begun.Begun.{Begun}
use Rattle.card_core.specs.declared.statement.Statement.{Statement}
use Rattle.card_core.specs.declared.read.Place.{Place}
use Rattle.card_core.specs.declared.read.ReadError.{ReadError}
use Rattle.card_core.specs.declared.read.ReadError.TheVariants.{Fault, Memory}
use Rattle.card_core.specs.Cards.{filled, line_fault, first_line_fault}
use Rattle.card_core.specs.Deck.{Card, Statements, onto, statements_behind}

-- a line without a fault is a card
abbrev pub Images : Result (List ℕ) CardFault → List ℕ → Type 0
Images (Ok card) line = (line_fault line ≡ None) × (card ≡ filled line)
Images (Err fault) line = line_fault line ≡ Some fault

abbrev pub ok_unless : Option CardFault → List Card → Result (List Card) CardFault
ok_unless (Some fault) cards = Err fault
ok_unless None cards = Ok cards

-- lines without a fault are cards
abbrev pub cards_of : List (List ℕ) → Result (List Card) CardFault
cards_of lines = ok_unless (first_line_fault lines) (map filled lines)

-- a statement begins what is denoted, whatever the statements behind it
abbrev pub Begins : Result Begun ReadError → ((Bool → ℕ → Statements) → Statements) → Type 0
Begins (Ok begun) denoted = (next : Bool → ℕ → Statements) → denoted next ≡ onto begun.statement (next begun.called begun.used)
Begins (Err (Fault fault)) denoted = (next : Bool → ℕ → Statements) → denoted next ≡ Err fault
Begins (Err Memory) denoted = Unit {0}

-- statements behind others
abbrev pub behind_others : List Statement → Statements → Statements
behind_others others (Ok statements) = Ok (others ++ statements)
behind_others others (Err fault) = Err fault

-- what begins with a card is put behind the statements before it, and the cards behind this place denote what follows
abbrev pub Passes : Result Place ReadError → List Statement → List Statement → Bool → Card → List Card → Type 0
Passes (Ok place) old new called card cards =
    behind_others old (statements_behind called 0 (card ∷ cards)) ≡ behind_others new (statements_behind place.called 0 (drop place.used cards))
Passes (Err (Fault fault)) old new called card cards = statements_behind called 0 (card ∷ cards) ≡ Err fault
Passes (Err Memory) old new called card cards = Unit {0}
