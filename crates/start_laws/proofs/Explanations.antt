-- What explains a risk has no more lines than a job has actions along its path, which are no more than its budget.
use Rattle.std.proofs.Common.{◌≡◌, ◌-◌, ◌+◌, ◌≤◌, ◌++◌, ℕ, Bool, true, false, cond, List, [], ◌∷◌, Option, Some, None, length, refl, ap, arith}
use Rattle.std.specs.Prelude.{All, slice_get, sum_by}
use Rattle.std.proofs.lemmas.List.Elements.{All-head, All-tail}
use Rattle.std.proofs.lemmas.List.Sums.{sum_by-cons}
use Rattle.jname_core.specs.declared.key.Key.{Key}
use Rattle.jcl_plan.specs.declared.entry.JobLine.{JobLine}
use Rattle.jcl_plan.specs.declared.outcome.Outcome.{Outcome}
use Rattle.jcl_plan.specs.declared.plan.DdKind.{DdKind}
use Rattle.jcl_plan.specs.declared.plan.DdKind.TheVariants.{Sysout, Dummy, Cards, Set}
use Rattle.jcl_plan.specs.declared.plan.JobPlan.{JobPlan}
use Rattle.jcl_plan.specs.declared.plan.SetPlan.{SetPlan}
use Rattle.jcl_plan.specs.declared.plan.StepPlan.{StepPlan}
use Rattle.jcl_meaning.specs.declared.program.Move.{Move}
use Rattle.jcl_meaning.specs.declared.program.SoloProgram.{SoloProgram}
use Rattle.jcl_meaning.specs.declared.state.DdState.{DdState}
use Rattle.jcl_meaning.specs.declared.state.Passed.{Passed}
use Rattle.jcl_meaning.specs.declared.state.Resolution.{Resolution}
use Rattle.jcl_meaning.specs.declared.state.Resolution.TheVariants.{Means, Fails}
use Rattle.jcl_meaning.specs.declared.state.TakenSet.{TakenSet}
use Rattle.jcl_meaning.specs.declared.take.Decision.{Decision}
use Rattle.jcl_meaning.specs.declared.take.Decision.TheVariants.{Refuses, Takes}
use Rattle.jcl_meaning.specs.Acts.{act}
use Rattle.jcl_meaning.specs.Agendas.{Action, Ask, Dispose, Finish, Left, Over, Receive, Start, Take, budget_of, path_agenda, step_budget}
use Rattle.jcl_meaning.specs.EndActs.{disposes, disposes_at, finishes, leaves, left_at, passed_by, set_disposes}
use Rattle.jcl_meaning.specs.Resolutions.{meaning_at}
use Rattle.jcl_meaning.specs.Solo.{at_start, given, run}
use Rattle.jcl_meaning.specs.States.{Done, Fixed, State, if_runs}
use Rattle.jcl_meaning.specs.Stores.{Store}
use Rattle.jcl_meaning.specs.TakeActs.{decided, takes, takes_set}
use Rattle.jcl_meaning.proofs.Budgets.{budget_is-length}
use Rattle.path_meaning.specs.Explanations.{path_lines, tells_fault, up_to_fault}
use Rattle.path_laws.proofs.Parts.{none_asked}
use Rattle.start_laws.proofs.Lines.{IsGiven, path_given}

-- lines of which at most one is kept, before what is kept of the lines behind them
record AddsOne (lines : List JobLine) : Type 0 where
  before : (more : List JobLine) → length (up_to_fault (lines ++ more)) ≤ 1 + length (up_to_fault more)

none : AddsOne []
none = record { before = λ more. omega arith }

one_kept : (b : Bool) (l : JobLine) (rest : List JobLine) → length (cond b (l ∷ []) (l ∷ rest)) ≤ 1 + length rest
one_kept true l rest = omega arith
one_kept false l rest = omega arith

one : (l : JobLine) → AddsOne (l ∷ [])
one l = record { before = λ more. one_kept (tells_fault l) l (up_to_fault more) }

-- behind a line that tells a fault nothing is kept
fault_first : (l : JobLine) (lines : List JobLine) → tells_fault l ≡ true → AddsOne (l ∷ lines)
fault_first l lines told =
    record { before = λ more. omega (arith, ap (λ (b : Bool). length (cond b (l ∷ []) (l ∷ up_to_fault (lines ++ more)))) told) }

chosen : (b : Bool) (x y : Done) → AddsOne x.lines → AddsOne y.lines → AddsOne (cond b x y).lines
chosen true x y p q = p
chosen false x y p q = q

running : (b : Bool) (s : State) (x : Done) → AddsOne x.lines → AddsOne (if_runs b s x).lines
running true s x p = p
running false s x p = none

-- each action
one_decided : (fixed : Fixed) (n dd : ℕ) (name : Option (List ℕ)) (p : SetPlan) (key : Key) (s : State) (d : Decision) →
    AddsOne (decided fixed n dd name p key s d).lines
one_decided fixed n dd name p key s (Refuses fault) = fault_first _ _ refl
one_decided fixed n dd name p key s (Takes serial h) = one _

one_set_taken : (fixed : Fixed) (n dd : ℕ) (name : Option (List ℕ)) (p : SetPlan) (s : State) (r : Resolution) →
    AddsOne (takes_set fixed n dd name p s r).lines
one_set_taken fixed n dd name p s (Fails fault) = fault_first _ _ refl
one_set_taken fixed n dd name p s (Means key) = one_decided fixed n dd name p key s _

one_taken : (fixed : Fixed) (n dd : ℕ) (name : Option (List ℕ)) (kind : DdKind) (s : State) → AddsOne (takes fixed n dd name kind s).lines
one_taken fixed n dd name (Sysout class) s = one _
one_taken fixed n dd name Dummy s = one _
one_taken fixed n dd name (Cards cards) s = one _
one_taken fixed n dd name (Set p) s = one_set_taken fixed n dd name p s (meaning_at fixed.meanings n dd)

one_finished : (n : ℕ) (o : Option Outcome) (s : State) → AddsOne (finishes n o s).lines
one_finished n (Some o) s = none
one_finished n None s = chosen _ _ _ (one _) (one _)

one_set_disposed : (fixed : Fixed) (n dd : ℕ) (name : Option (List ℕ)) (p : SetPlan) (t : Option TakenSet) (s : State) →
    AddsOne (set_disposes fixed n dd name p t s).lines
one_set_disposed fixed n dd name p None s = one _
one_set_disposed fixed n dd name p (Some t) s = one _

one_disposed_at : (fixed : Fixed) (n dd : ℕ) (name : Option (List ℕ)) (kind : DdKind) (x : DdState) (s : State) →
    AddsOne (disposes_at fixed n dd name kind x s).lines
one_disposed_at fixed n dd name (Sysout class) x s = one _
one_disposed_at fixed n dd name Dummy x s = one _
one_disposed_at fixed n dd name (Cards cards) x s = one _
one_disposed_at fixed n dd name (Set p) x s = one_set_disposed fixed n dd name p x.taken s

one_disposed : (x : Option DdState) (fixed : Fixed) (n dd : ℕ) (name : Option (List ℕ)) (kind : DdKind) (s : State) →
    AddsOne (disposes x fixed n dd name kind s).lines
one_disposed None fixed n dd name kind s = none
one_disposed (Some x) fixed n dd name kind s = one_disposed_at fixed n dd name kind x s

one_set_left : (fixed : Fixed) (n dd : ℕ) (name : Option (List ℕ)) (p : SetPlan) (q : Option Passed) (s : State) →
    AddsOne (leaves fixed n dd name p q s).lines
one_set_left fixed n dd name p None s = none
one_set_left fixed n dd name p (Some q) s = one _

one_left : (fixed : Fixed) (n dd : ℕ) (name : Option (List ℕ)) (kind : DdKind) (s : State) → AddsOne (left_at fixed n dd name kind s).lines
one_left fixed n dd name (Sysout class) s = none
one_left fixed n dd name Dummy s = none
one_left fixed n dd name (Cards cards) s = none
one_left fixed n dd name (Set p) s = one_set_left fixed n dd name p (passed_by s.own.passed n dd) s

one_line : (fixed : Fixed) (a : Action) (s : State) → IsGiven a → AddsOne (act fixed a s).lines
unfolding act
one_line fixed (Start n step) s h = one _
one_line fixed (Take n dd d) s h = running _ s _ (one_taken fixed n dd d.name d.kind s)
one_line fixed (Ask step move) s h = absurd h
one_line fixed Receive s h = absurd h
one_line fixed (Finish n) s h = chosen _ _ _ (one_finished n s.own.over s) none
one_line fixed (Dispose n dd d) s h = running _ s _ (one_disposed (slice_get s.own.dds (dd - 1)) fixed n dd d.name d.kind s)
one_line fixed (Left n dd d) s h = one_left fixed n dd d.name d.kind s
one_line fixed Over s h = one _

-- a run
run_kept : (fixed : Fixed) (actions : List Action) (s : State) → All IsGiven actions → length (up_to_fault (run fixed actions s).lines) ≤ length actions
unfolding run
run_kept fixed [] s given = omega arith
run_kept fixed (a ∷ actions) s given =
    let done = act fixed a s in
    omega (
      arith,
      (one_line fixed a s (All-head IsGiven a actions given)).before (run fixed actions done.state).lines,
      run_kept fixed actions done.state (All-tail IsGiven a actions given),
    )

-- programs only add to the budget
step_least : (programs : List SoloProgram) (step : StepPlan) → step_budget [] step ≤ step_budget programs step
step_least programs step = omega (arith, ap (λ (moves : List Move). length moves) (none_asked step.program))

steps_least : (programs : List SoloProgram) (steps : List StepPlan) → sum_by (step_budget []) steps ≤ sum_by (step_budget programs) steps
steps_least programs [] = omega arith
steps_least programs (step ∷ steps) =
    omega (
      arith,
      sum_by-cons (step_budget []) step steps,
      sum_by-cons (step_budget programs) step steps,
      step_least programs step,
      steps_least programs steps,
    )

pub explanation_is_few : (fixed : Fixed) (plan : JobPlan) (store : Store) (path : List Outcome) (programs : List SoloProgram) →
    length (path_lines fixed plan store path) ≤ budget_of plan programs
explanation_is_few fixed plan store path programs =
    omega (
      arith,
      run_kept fixed (path_agenda plan) (at_start store (given path)) (path_given plan),
      budget_is-length plan [],
      steps_least programs plan.steps,
    )
