-- Where cards are refused, a card is.
use Rattle.std.proofs.Common.{◌≡◌, ◌∷◌, ◌∙◌, ℕ, zero, suc, ◌+◌, ◌||◌, Bool, true, false, List, [], None, Option, Some, Result, Ok, Err, codes, drop, refl, map}
use Rattle.std.specs.Prelude.{is_err, is_some, if◌then◌else◌}
use Rattle.card_core.specs.declared.card.Kind.{Kind}
use Rattle.card_core.specs.declared.card.Kind.TheVariants.{Comment, Data, Delimiter, Jcl, Null}
use Rattle.card_core.specs.declared.data.Opens.TheVariants.{ToStatement}
use Rattle.card_core.specs.declared.fault.CardFault.{CardFault}
use Rattle.card_core.specs.declared.fault.CardFault.TheVariants.{DataBeforeExec}
use Rattle.card_core.specs.declared.operand.Operand.{Operand}
use Rattle.card_core.specs.declared.statement.Statement.{Statement}
use Rattle.card_core.specs.Cards.{filled, first_line_fault, first_of, kind_of, line_fault}
use Rattle.card_core.specs.Deck.{Card, Statements, begins, data_cards, data_of, is_exec, onto, statements_behind, statements_of, unless, used_by_data, with_operand}
use Rattle.card_core.specs.Fields.{name_of, operand_behind, operation_of, opens}
use Rattle.deck_places.specs.Cards.{Walk, bad_from, bad_line, has_early_data, statement_by, step_by, used_before_data, used_by, walk_by, walk_from, walk_in, walk_of}
use Rattle.deck_places.specs.declared.walk.Step.TheVariants.{Begins, Refused}

-- a line that is no card has its number
bad_turn : (n : ℕ) (fault : Option CardFault) (lines : List (List ℕ)) → is_some (first_line_fault lines) ≡ is_some (bad_from (n + 1) lines) →
    is_some (first_of fault (first_line_fault lines)) ≡ is_some (if is_some fault then Some n else bad_from (n + 1) lines)
bad_turn n (Some fault) lines more = refl
bad_turn n None lines more = more

pub bad_so : (n : ℕ) (lines : List (List ℕ)) → is_some (first_line_fault lines) ≡ is_some (bad_from n lines)
bad_so n [] = refl
bad_so n (line ∷ lines) = bad_turn n (line_fault line) lines (bad_so (n + 1) lines)

onto_so : (s : Statement) (statements : Statements) → is_err (onto s statements) ≡ is_err statements
onto_so s (Ok statements) = refl
onto_so s (Err fault) = refl

-- one step of both walks
module _ (called : Bool) (at : ℕ) (card : Card) (cards : List Card) (next : Bool → ℕ → Statements) (walk : Bool → ℕ → Walk)
    (same : (c : Bool) (used : ℕ) → is_err (next c used) ≡ is_some (walk c used).refused) where
  by_test : (b : Bool) (s : Statement) (c : Bool) (used : ℕ) →
      is_err (if b then Err DataBeforeExec else onto s (next c used)) ≡ is_some (walk_by at (if b then Refused 0 else Begins c used) called walk).refused
  by_test true s c used = refl
  by_test false s c used = onto_so s (next c used) ∙ same c used

  by_operand : (r : Result Operand CardFault) →
      is_err (with_operand called card cards r next) ≡ is_some (walk_by at (statement_by called card cards r) called walk).refused
  by_operand (Err fault) = refl
  by_operand (Ok operand) = by_test (has_early_data called card cards operand)
      (record {
        name = name_of card;
        operation = operation_of card;
        operand = operand.text;
        cards = data_of (opens (operation_of card) operand.text) (drop (used_before_data cards operand) cards);
      })
      (called || is_exec (operation_of card)) (used_by card cards operand)

  by_call : (b : Bool) (s : Statement) (used : ℕ) →
      is_err (if b then onto s (next called used) else Err DataBeforeExec)
      ≡ is_some (walk_by at (if b then Begins called used else Refused 0) called walk).refused
  by_call true s used = onto_so s (next called used) ∙ same called used
  by_call false s used = refl

  pub step_so : (kind : Kind) → is_err (begins kind called card cards next) ≡ is_some (walk_by at (step_by kind called card cards) called walk).refused
  step_so Comment = same called 0
  step_so Delimiter = same called 0
  step_so Null = refl
  step_so Jcl = by_operand (operand_behind card cards)
  step_so Data = by_call called
      (record { name = codes "SYSIN"; operation = codes "DD"; operand = codes "*"; cards = Some (card ∷ data_cards ToStatement cards) })
      (used_by_data ToStatement cards)

walk_so : (called : Bool) (at used : ℕ) (cards : List Card) → is_err (statements_behind called used cards) ≡ is_some (walk_from called at used cards).refused
walk_so called at used [] = refl
walk_so called at (suc used) (card ∷ cards) = walk_so called (at + 1) used cards
walk_so called at zero (card ∷ cards) =
    step_so called at card cards (λ c used. statements_behind c used cards) (λ c used. walk_from c (at + 1) used cards)
    (λ c used. walk_so c (at + 1) used cards) (kind_of card)

lines_so : (fault : Option CardFault) (bad : Option ℕ) (lines : List (List ℕ)) → is_some fault ≡ is_some bad →
    is_err (unless fault (statements_behind false 0 (map filled lines))) ≡ is_some (walk_in bad lines).refused
lines_so (Some fault) (Some n) lines e = refl
lines_so (Some fault) None lines e = absurd cc
lines_so None (Some n) lines e = absurd cc
lines_so None None lines e = walk_so false 0 0 (map filled lines)

pub refused_so : (lines : List (List ℕ)) → is_err (statements_of lines) ≡ is_some (walk_of lines).refused
refused_so lines = lines_so (first_line_fault lines) (bad_line lines) lines (bad_so 0 lines)
