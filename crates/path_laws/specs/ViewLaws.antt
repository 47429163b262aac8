-- What a view is for: a part of a job's path does the same from all states of which the job sees the same.
use Rattle.std.specs.Prelude.{◌≡◌, ℕ, ◌+◌, true, List, ◌∷◌, ◌++◌, drop}
use Rattle.jcl_plan.specs.declared.outcome.Outcome.{Outcome}
use Rattle.jcl_plan.specs.declared.plan.JobPlan.{JobPlan}
use Rattle.jcl_plan.specs.declared.plan.StepPlan.{StepPlan}
use Rattle.jcl_meaning.specs.Agendas.{Action}
use Rattle.jcl_meaning.specs.Names.{names_of}
use Rattle.jcl_meaning.specs.Solo.{Ran, is_clean, run}
use Rattle.jcl_meaning.specs.States.{Fixed, State, others}
use Rattle.jcl_meaning.specs.Views.{view_at}
use Rattle.part_laws.specs.Fits.{Fits}
use Rattle.path_meaning.specs.Paths.{fates_in}
use Rattle.path_laws.specs.PathParts.{IsBefore, IsOneClass, next_outcome, part_runs, path_part}

-- Two runs of the actions before step k + 1 did the same, but for the lines that they wrote: fates, faults with their places, sets made, and
-- what is seen behind them.
pub record DidTheSame (plan : JobPlan) (date k : ℕ) (a b : Ran) : Type 0 where
  pub fates : fates_in a.lines ≡ fates_in b.lines
  pub faults : a.faults ≡ b.faults
  pub made : a.made ≡ b.made
  pub view : view_at plan k date a.state ≡ view_at plan k date b.state

-- Two states before a part with one view: along outcomes of which the next ones are of one class, if the part's step runs, the part does the
-- same from both.
abbrev pub PartSees : Type 0
PartSees = (plan : JobPlan) (fixed : Fixed) (k : ℕ) (rest : List Action) (s t : State) (os ps : List Outcome) → fixed.job_tests ≡ plan.tests.items →
    view_at plan k fixed.date s ≡ view_at plan k fixed.date t → IsBefore s os → IsBefore t ps →
    (part_runs fixed (drop k plan.steps) s.own ≡ true → IsOneClass (k + 1) plan.tests.items (drop (k + 1) plan.steps) (next_outcome os) (next_outcome ps)) →
    Fits (names_of plan) fixed.meanings (path_part plan k ++ rest) s.own →
    DidTheSame plan fixed.date (k + 1) (run fixed (path_part plan k) s) (run fixed (path_part plan k) t)

-- Behind a step that meets no fault the outcomes are left that were given for the steps behind it.
abbrev pub PartLeaves : Type 0
PartLeaves = (plan : JobPlan) (fixed : Fixed) (k : ℕ) (step : StepPlan) (later : List StepPlan) (s : State) (os : List Outcome) →
    drop k plan.steps ≡ step ∷ later → IsBefore s os → is_clean (run fixed (path_part plan k) s) ≡ true →
    IsBefore (run fixed (path_part plan k) s).state (others os)
