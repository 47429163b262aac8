-- On which card of a deck each statement begins, and which card is refused. Cards count from 0. (GC28-6704, "Control statement fields"; which card is told
-- of is this profile's)
use Rattle.std.specs.Prelude.{ℕ, zero, suc, ◌+◌, Bool, false, ◌||◌, ◌==◌, List, [], ◌∷◌, length, map, drop, codes, Option, Some, None, is_some, Result, Ok, Err, if◌then◌else◌}
use Rattle.std.specs.Str.{bytes_eq}
use Rattle.card_core.specs.declared.card.Kind.{Kind}
use Rattle.card_core.specs.declared.card.Kind.TheVariants.{Comment, Data, Delimiter, Jcl, Null}
use Rattle.card_core.specs.declared.data.Opens.TheVariants.{ToStatement}
use Rattle.card_core.specs.declared.fault.CardFault.{CardFault}
use Rattle.card_core.specs.declared.operand.Operand.{Operand}
use Rattle.card_core.specs.Cards.{columns, filled, kind_of, line_fault, may_continue}
use Rattle.card_core.specs.Deck.{Card, comment_cards, data_of, is_early, is_exec, used_by_data}
use Rattle.card_core.specs.Fields.{behind_operation, ends_with_comma, operand_behind, operand_text, operation_of, opens, resumes_outside, without_blanks}
use Rattle.deck_places.specs.declared.walk.Step.{Step}
use Rattle.deck_places.specs.declared.walk.Step.TheVariants.{Begins, Over, Passed, Refused}

-- an operand goes on behind its text on a card; with no text apostrophes are open there
abbrev pub goes_on : Option (List ℕ) → Bool
goes_on None = false
goes_on (Some text) = ends_with_comma text

-- one with this text on card n is refused there, or on the card that is told where it goes on
abbrev pub text_at : ℕ → Option (List ℕ) → ℕ → ℕ
text_at n text behind = if goes_on text then behind else n

-- An operand that ended with a comma on card n is refused there where no card continues it, else on the card that continues it wrongly.
abbrev pub continued_at : ℕ → List Card → ℕ
continued_at n [] = n
continued_at n (card ∷ cards) =
    if may_continue card
    then (if resumes_outside card then n + 1
    else text_at (n + 1) (operand_text false (without_blanks (columns 4 71 card))) (continued_at (n + 1) cards))
    else n

-- how many cards behind its first a statement is refused for its operand
abbrev pub operand_at : Card → List Card → ℕ
operand_at card cards =
    if length (operation_of card) == 0 || bytes_eq (operation_of card) (codes "PEND") then 0
    else text_at 0 (operand_text false (behind_operation card)) (continued_at 0 cards)

-- how many cards behind its first a statement takes before its data, and in all
abbrev pub used_before_data : List Card → Operand → ℕ
used_before_data cards operand = operand.cards + comment_cards operand.last (drop operand.cards cards)

abbrev pub used_by : Card → List Card → Operand → ℕ
used_by card cards operand =
    used_before_data cards operand + used_by_data (opens (operation_of card) operand.text) (drop (used_before_data cards operand) cards)

abbrev pub has_early_data : Bool → Card → List Card → Operand → Bool
has_early_data called card cards operand =
    is_early called (data_of (opens (operation_of card) operand.text) (drop (used_before_data cards operand) cards))

-- what begins with a card: data before the first EXEC statement are refused on the card of their statement, or on their first
abbrev pub statement_by : Bool → Card → List Card → Result Operand CardFault → Step
statement_by called card cards (Err fault) = Refused (operand_at card cards)
statement_by called card cards (Ok operand) =
    if has_early_data called card cards operand then Refused 0
    else Begins (called || is_exec (operation_of card)) (used_by card cards operand)

abbrev pub step_by : Kind → Bool → Card → List Card → Step
step_by Comment called card cards = Passed
step_by Delimiter called card cards = Passed
step_by Null called card cards = Over
step_by Jcl called card cards = statement_by called card cards (operand_behind card cards)
step_by Data called card cards = if called then Begins called (used_by_data ToStatement cards) else Refused 0

abbrev pub step_of : Bool → Card → List Card → Step
step_of called card cards = step_by (kind_of card) called card cards

-- the cards on which statements begin, in order, and the card that is refused
pub record Walk : Type 0 where
  pub begun : List ℕ
  pub refused : Option ℕ

abbrev pub onto : ℕ → Walk → Walk
onto at walk = record { begun = at ∷ walk.begun; refused = walk.refused }

abbrev pub walk_by : ℕ → Step → Bool → (Bool → ℕ → Walk) → Walk
walk_by at Over called next = record { begun = []; refused = None }
walk_by at Passed called next = next called 0
walk_by at (Begins c used) called next = onto at (next c used)
walk_by at (Refused more) called next = record { begun = at ∷ []; refused = Some (at + more) }

-- from a card on, of which so many are taken already
abbrev pub walk_from : Bool → ℕ → ℕ → List Card → Walk
walk_from called at used [] = record { begun = []; refused = None }
walk_from called at (suc used) (card ∷ cards) = walk_from called (at + 1) used cards
walk_from called at zero (card ∷ cards) = walk_by at (step_of called card cards) called (λ c used. walk_from c (at + 1) used cards)

-- the first line that is no card
abbrev pub bad_from : ℕ → List (List ℕ) → Option ℕ
bad_from n [] = None
bad_from n (line ∷ lines) = if is_some (line_fault line) then Some n else bad_from (n + 1) lines

abbrev pub bad_line : List (List ℕ) → Option ℕ
bad_line lines = bad_from 0 lines

-- of the lines of a deck: one that is no card comes first
abbrev pub walk_in : Option ℕ → List (List ℕ) → Walk
walk_in (Some n) lines = record { begun = []; refused = Some n }
walk_in None lines = walk_from false 0 0 (map filled lines)

abbrev pub walk_of : List (List ℕ) → Walk
walk_of lines = walk_in (bad_line lines) lines
