-- The lines of a run, beside those of a fault, and how many there are.
use Rattle.std.specs.Prelude.{◌≡◌, ℕ, ◌≤◌, Bool, true, false, not, List, filter, length}
use Rattle.jcl_plan.specs.declared.entry.JobLine.{JobLine}
use Rattle.jcl_plan.specs.declared.entry.JobLine.TheVariants as line
use Rattle.jcl_plan.specs.declared.plan.JobPlan.{JobPlan}
use Rattle.jcl_meaning.specs.declared.program.SoloProgram.{SoloProgram}
use Rattle.jcl_meaning.specs.declared.solo.SoloAnswers.{SoloAnswers}
use Rattle.jcl_meaning.specs.Agendas.{Action, budget_of}
use Rattle.jcl_meaning.specs.Solo.{is_clean, run, solo_of}
use Rattle.jcl_meaning.specs.States.{Fixed, State}
use Rattle.jcl_meaning.specs.Stores.{Store}

-- a fault's own line, and one for each set that is given back
abbrev pub is_of_fault : JobLine → Bool
is_of_fault (line.Fault fault step dd) = true
is_of_fault (line.Back dd name word) = true
is_of_fault _ = false

abbrev pub beside_faults : List JobLine → List JobLine
beside_faults lines = filter (λ l. not (is_of_fault l)) lines

-- a run writes no more lines than it has actions, beside the lines of a fault
abbrev pub RunsKeepToTheirActions : Type 0
RunsKeepToTheirActions = (fixed : Fixed) (actions : List Action) (s : State) → length (beside_faults (run fixed actions s).lines) ≤ length actions

-- without a fault no more at all
abbrev pub CleanRunsKeepToTheirActions : Type 0
CleanRunsKeepToTheirActions = (fixed : Fixed) (actions : List Action) (s : State) →
    is_clean (run fixed actions s) ≡ true → length (run fixed actions s).lines ≤ length actions

-- a job that meets no fault keeps to its budget
abbrev pub CleanJobsKeepToTheirBudgets : Type 0
CleanJobsKeepToTheirBudgets = (fixed : Fixed) (plan : JobPlan) (store : Store) (programs : List SoloProgram) (answers : SoloAnswers) →
    is_clean (solo_of fixed plan store programs answers) ≡ true → length (solo_of fixed plan store programs answers).lines ≤ budget_of plan programs
