-- As many statements begin as are read.
use Rattle.std.proofs.Common.{◌≡◌, ◌∷◌, ℕ, zero, suc, ◌+◌, ◌||◌, Bool, true, false, List, [], None, Option, Some, Result, Ok, Err, codes, drop, length, refl, map, ap, subst}
use Rattle.std.specs.Prelude.{is_some, if◌then◌else◌}
use Rattle.card_core.specs.declared.card.Kind.{Kind}
use Rattle.card_core.specs.declared.card.Kind.TheVariants.{Comment, Data, Delimiter, Jcl, Null}
use Rattle.card_core.specs.declared.data.Opens.TheVariants.{ToStatement}
use Rattle.card_core.specs.declared.fault.CardFault.{CardFault}
use Rattle.card_core.specs.declared.fault.CardFault.TheVariants.{DataBeforeExec}
use Rattle.card_core.specs.declared.operand.Operand.{Operand}
use Rattle.card_core.specs.declared.statement.Statement.{Statement}
use Rattle.card_core.specs.Cards.{filled, first_line_fault, kind_of}
use Rattle.card_core.specs.Deck.{Card, Statements, begins, data_cards, data_of, is_exec, onto, statements_behind, statements_of, unless, used_by_data, with_operand}
use Rattle.card_core.specs.Fields.{name_of, operand_behind, operation_of, opens}
use Rattle.deck_places.specs.Cards.{Walk, bad_line, has_early_data, statement_by, step_by, used_before_data, used_by, walk_by, walk_from, walk_in, walk_of}
use Rattle.deck_places.specs.declared.walk.Step.TheVariants.{Begins, Refused}
use Rattle.deck_places.proofs.Cards.{bad_so}

abbrev AreAsMany : Statements → Walk → Type 0
AreAsMany (Ok statements) walk = length walk.begun ≡ length statements
AreAsMany (Err fault) walk = Unit {0}

onto_one : (at : ℕ) (s : Statement) (statements : Statements) (walk : Walk) → AreAsMany statements walk →
    AreAsMany (onto s statements) (record { begun = at ∷ walk.begun; refused = walk.refused })
onto_one at s (Ok statements) walk h = ap suc h
onto_one at s (Err fault) walk h = tt

-- one step of both walks
module _ (called : Bool) (at : ℕ) (card : Card) (cards : List Card) (next : Bool → ℕ → Statements) (walk : Bool → ℕ → Walk)
    (same : (c : Bool) (used : ℕ) → AreAsMany (next c used) (walk c used)) where
  by_test : (b : Bool) (s : Statement) (c : Bool) (used : ℕ) →
      AreAsMany (if b then Err DataBeforeExec else onto s (next c used)) (walk_by at (if b then Refused 0 else Begins c used) called walk)
  by_test true s c used = tt
  by_test false s c used = onto_one at s (next c used) (walk c used) (same c used)

  by_operand : (r : Result Operand CardFault) → AreAsMany (with_operand called card cards r next) (walk_by at (statement_by called card cards r) called walk)
  by_operand (Err fault) = tt
  by_operand (Ok operand) = by_test (has_early_data called card cards operand)
      (record {
        name = name_of card;
        operation = operation_of card;
        operand = operand.text;
        cards = data_of (opens (operation_of card) operand.text) (drop (used_before_data cards operand) cards);
      })
      (called || is_exec (operation_of card)) (used_by card cards operand)

  by_call : (b : Bool) (s : Statement) (used : ℕ) →
      AreAsMany (if b then onto s (next called used) else Err DataBeforeExec) (walk_by at (if b then Begins called used else Refused 0) called walk)
  by_call true s used = onto_one at s (next called used) (walk called used) (same called used)
  by_call false s used = tt

  step_many : (kind : Kind) → AreAsMany (begins kind called card cards next) (walk_by at (step_by kind called card cards) called walk)
  step_many Comment = same called 0
  step_many Delimiter = same called 0
  step_many Null = refl
  step_many Jcl = by_operand (operand_behind card cards)
  step_many Data = by_call called
      (record { name = codes "SYSIN"; operation = codes "DD"; operand = codes "*"; cards = Some (card ∷ data_cards ToStatement cards) })
      (used_by_data ToStatement cards)

walk_many : (called : Bool) (at used : ℕ) (cards : List Card) → AreAsMany (statements_behind called used cards) (walk_from called at used cards)
walk_many called at used [] = refl
walk_many called at (suc used) (card ∷ cards) = walk_many called (at + 1) used cards
walk_many called at zero (card ∷ cards) =
    step_many called at card cards (λ c used. statements_behind c used cards) (λ c used. walk_from c (at + 1) used cards)
    (λ c used. walk_many c (at + 1) used cards) (kind_of card)

lines_many : (fault : Option CardFault) (bad : Option ℕ) (lines : List (List ℕ)) → is_some fault ≡ is_some bad →
    AreAsMany (unless fault (statements_behind false 0 (map filled lines))) (walk_in bad lines)
lines_many (Some fault) bad lines e = tt
lines_many None (Some n) lines e = absurd cc
lines_many None None lines e = walk_many false 0 0 (map filled lines)

all_many : (lines : List (List ℕ)) → AreAsMany (statements_of lines) (walk_of lines)
all_many lines = lines_many (first_line_fault lines) (bad_line lines) lines (bad_so 0 lines)

pub as_many : (lines : List (List ℕ)) (statements : List Statement) → statements_of lines ≡ Ok statements → length (walk_of lines).begun ≡ length statements
as_many lines statements e = subst (λ r. AreAsMany r (walk_of lines)) e (all_many lines)
