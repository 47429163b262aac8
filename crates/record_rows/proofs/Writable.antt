-- the job of a deck can be written
use Rattle.std.proofs.Common.{◌≤◌, ℕ, List, length, Result, Ok, Err, IfOk}
use Rattle.jcl_plan.specs.declared.plan.JobPlan.{JobPlan}
use Rattle.jcl_plan.specs.declared.plan.TheConstants.{MOST_STEPS}
use Rattle.value_core.specs.declared.refusal.ReadError.{ReadError}
use Rattle.value_core.specs.Reads.{Gives}
use Rattle.proc_library.specs.declared.library.LibraryProcedure.{LibraryProcedure}
use Rattle.cb_meaning.specs.Writable.{IsWritable}
use Rattle.jcl_job.specs.Jobs.{job_of}
use Rattle.plan_laws.proofs.SoundDecks.{job_is_writable}
use Rattle.queue_images.proofs.Stepped.{allows}

pub each_is_writable : (units : List (List ℕ)) (library : List LibraryProcedure) (lines : List (List ℕ)) (result : Result JobPlan ReadError) →
    Gives result (job_of units library lines) → IfOk result (λ job. (n : ℕ) × IsWritable MOST_STEPS n job)
each_is_writable units library lines (Ok job) gives = (length units, job_is_writable units library lines job gives)
each_is_writable units library lines (Err error) gives = tt

-- it can be written in a layout that allows as many steps
pub writable_in : (most : ℕ) (job : JobPlan) → length job.steps ≤ most → (units : ℕ) × IsWritable MOST_STEPS units job → (units : ℕ) × IsWritable most units job
writable_in most job few (units, is) = (units, allows MOST_STEPS most units job few is)
