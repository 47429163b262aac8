-- Plans that records can spell.
use Rattle.std.specs.Prelude.{◌≡◌, ℕ, ◌≤◌, List, length, Ok, All}
use Rattle.jcl_plan.specs.declared.plan.JobPlan.{JobPlan}
use Rattle.cb_meaning.specs.Writable.{IsWritable}
use Rattle.jcl_cards.specs.declared.job.JobCard.{JobCard}
use Rattle.jcl_procs.specs.declared.step.FlatStep.{FlatStep}
use Rattle.proc_library.specs.declared.library.LibraryProcedure.{LibraryProcedure}
use Rattle.statement_laws.specs.Ranges.{IsSoundJob}
use Rattle.deck_laws.specs.Sound.{IsSoundStep}
use Rattle.jcl_refs.specs.Plans.{most_steps, plan_of}
use Rattle.jcl_job.specs.Jobs.{job_of}

-- Records can spell the plan of a job of one step or more whose cards hold values in their ranges.
abbrev pub PlanIsWritable : Type 0
PlanIsWritable = (units : List (List ℕ)) (job : JobCard) (steps : List FlatStep) (plan : JobPlan) → IsSoundJob job → 1 ≤ length steps →
    All IsSoundStep steps → plan_of units job steps ≡ Ok plan → IsWritable most_steps (length units) plan

-- So they can spell every job that a deck denotes.
abbrev pub JobIsWritable : Type 0
JobIsWritable = (units : List (List ℕ)) (library : List LibraryProcedure) (lines : List (List ℕ)) (plan : JobPlan) →
    job_of units library lines ≡ Ok plan → IsWritable most_steps (length units) plan
