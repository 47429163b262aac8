-- What is refused of the first statements of a procedure stays refused with more of them.
use Rattle.std.proofs.Common.{◌≡◌, ◌∷◌, ◌∙◌, ◌≤◌, ◌<◌, ℕ, zero, suc, ◌+◌, ◌==◌, Bool, true, false, List, [], None, Result, Ok, Err, ap, arith, length, sym, take}
use Rattle.std.proofs.lemmas.List.{take_all}
use Rattle.std.specs.Prelude.{if◌then◌else◌}
use Rattle.card_core.specs.declared.statement.Statement.{Statement}
use Rattle.jcl_deck.specs.Decks.{operation_of}
use Rattle.jcl_plan.specs.declared.fault.Cause.{Cause}
use Rattle.jcl_plan.specs.declared.fault.Cause.TheVariants.{P}
use Rattle.jcl_plan.specs.declared.fault.StatementFault.TheVariants.{NoStep}
use Rattle.jcl_procs.specs.declared.step.FlatStep.{FlatStep}
use Rattle.jcl_procs.specs.Calls.{Call, Place, behind_by, steps_behind, steps_from, steps_of, steps_with}
use Rattle.deck_places.specs.Called.{IsFirst, IsFirstRefused, IsRefusedTo}
use Rattle.deck_places.specs.Tried.{WantsStep}

-- at their end they are refused for want of a step alone
ended_by : (none : Bool) (steps : List FlatStep) (cause : Cause) →
    (let r : Result (List FlatStep) Cause = if none then Err (P NoStep) else Ok steps in r) ≡ Err cause → P NoStep ≡ cause
ended_by true steps cause e = cc
ended_by false steps cause e = absurd cc

ended : (place : Place) (cause : Cause) → steps_with place ≡ Err cause → P NoStep ≡ cause
ended place cause e = ended_by (length place.steps == 0) place.steps cause e

module _ (call : Call) (cause : Cause) (other : P NoStep ≡ cause → ⊥) where
  stays_turn : (moved : Result Place Cause) (m n : ℕ) (statements : List Statement) →
      ((next : Place) → steps_from call next (take m statements) ≡ Err cause → steps_from call next (take n statements) ≡ Err cause) →
      steps_behind moved (λ next. steps_from call next (take m statements)) ≡ Err cause →
      steps_behind moved (λ next. steps_from call next (take n statements)) ≡ Err cause
  stays_turn (Err fault) m n statements more e = e
  stays_turn (Ok next) m n statements more e = more next e

  stays : (place : Place) (m n : ℕ) (statements : List Statement) → m ≤ n → steps_from call place (take m statements) ≡ Err cause →
      steps_from call place (take n statements) ≡ Err cause
  stays place zero n statements less e = absurd (other (ended place cause e))
  stays place (suc m) n [] less e = absurd (other (ended place cause e))
  stays place (suc m) zero (s ∷ statements) less e = absurd (omega (arith, less))
  stays place (suc m) (suc n) (s ∷ statements) less e =
      stays_turn (behind_by (operation_of s.operation) call place s) m n statements
      (λ next h. stays next m n statements (omega (arith, less)) h) e

pub stays_refused : (call : Call) (statements : List Statement) (cause : Cause) (m n : ℕ) → (IsRefusedTo call statements cause 0 → ⊥) → m ≤ n →
    IsRefusedTo call statements cause m → IsRefusedTo call statements cause n
stays_refused call statements cause m n some less e =
    stays call cause (λ none. some (let h : IsRefusedTo call statements cause 0 = ap (λ c. let r : Result (List FlatStep) Cause = Err c in r) none in h))
    (record { job_library = false; steps = [] }) m n statements less e

-- no statement at all is refused for want of a step
pub at_start : (call : Call) (statements : List Statement) (cause : Cause) → IsRefusedTo call statements cause 0 → WantsStep cause
at_start call statements cause e = (let h : (let r : Result (List FlatStep) Cause = Err (P NoStep) in r) ≡ Err cause = e in cc)

at_all : (call : Call) (statements : List Statement) (cause : Cause) → IsRefusedTo call statements cause (length statements) → steps_of call statements ≡ Err cause
at_all call statements cause e = ap (steps_of call) (sym (take_all (length statements) statements (omega arith))) ∙ e

pub all_at : (call : Call) (statements : List Statement) (cause : Cause) → steps_of call statements ≡ Err cause → IsRefusedTo call statements cause (length statements)
all_at call statements cause e = ap (steps_of call) (take_all (length statements) statements (omega arith)) ∙ e

-- with the first with which they are refused they all are
first_all : (call : Call) (statements : List Statement) (cause : Cause) (n : ℕ) → IsFirstRefused call statements cause n → steps_of call statements ≡ Err cause
first_all call statements cause n first =
    let there : n < length statements = first.there in
    at_all call statements cause
    (stays_refused call statements cause (n + 1) (length statements) (first.first 0 (omega arith)) (omega arith) first.refused)

pub first_at : (call : Call) (statements : List Statement) (cause : Cause) (n : ℕ) → (WantsStep cause → ⊥) → n < length statements →
    (IsRefusedTo call statements cause n → WantsStep cause) → IsRefusedTo call statements cause (n + 1) → IsFirstRefused call statements cause n
first_at call statements cause n some there before refused = record {
  there = there;
  refused = refused;
  first = λ m less e. some (before (stays_refused call statements cause m n (λ none. some (at_start call statements cause none)) less e));
}

-- where all are refused for something else, or for nothing, none is the first for this
pub first_of_other : (call : Call) (statements : List Statement) (other cause : Cause) (n : ℕ) → IsFirstRefused call statements other n →
    (other ≡ cause → ⊥) → IsFirst call statements cause None
first_of_other call statements other cause n it differ m first =
    differ (let both : (let r : Result (List FlatStep) Cause = Err other in r) ≡ Err cause
    = sym (first_all call statements other n it) ∙ first_all call statements cause m first in cc)

pub first_of_none : (call : Call) (statements : List Statement) (cause : Cause) →
    ((other : Cause) → steps_of call statements ≡ Err other → WantsStep other) → IsFirst call statements cause None
first_of_none call statements cause calm m first =
    let wants : P NoStep ≡ cause = calm cause (first_all call statements cause m first) in
    first.first 0 (omega arith)
    (let h : IsRefusedTo call statements cause 0 = ap (λ c. let r : Result (List FlatStep) Cause = Err c in r) wants in h)
