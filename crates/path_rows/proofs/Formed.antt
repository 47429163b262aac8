-- the job of a deck is well-formed
use Rattle.std.proofs.Common.{ℕ, List, length, Result, Ok, Err, IfOk}
use Rattle.jcl_plan.specs.declared.plan.JobPlan.{JobPlan}
use Rattle.jcl_plan.specs.declared.plan.TheConstants.{MOST_STEPS}
use Rattle.value_core.specs.declared.refusal.ReadError.{ReadError}
use Rattle.value_core.specs.Reads.{Gives}
use Rattle.proc_library.specs.declared.library.LibraryProcedure.{LibraryProcedure}
use Rattle.jcl_job.specs.Jobs.{job_of}
use Rattle.jcl_meaning.specs.WellFormed.{IsWellFormedPlan}
use Rattle.plan_laws.proofs.SoundDecks.{job_is_writable}
use Rattle.law_core.proofs.Reading.{plan_formed}

pub each_is_formed : (units : List (List ℕ)) (library : List LibraryProcedure) (lines : List (List ℕ)) (result : Result JobPlan ReadError) →
    Gives result (job_of units library lines) → IfOk result IsWellFormedPlan
each_is_formed units library lines (Ok job) gives = plan_formed MOST_STEPS (length units) job (job_is_writable units library lines job gives)
each_is_formed units library lines (Err error) gives = tt
