-- What is found of a deck, by what is told of it.
use Rattle.std.proofs.Common.{◌≡◌, ◌∙◌, ℕ, List, ap, sym}
use Rattle.std.specs.Prelude.{is_err}
use Rattle.jcl_job.specs.Jobs.{job_of}
use Rattle.proc_library.specs.declared.library.LibraryProcedure.{LibraryProcedure}
use Rattle.check_core.specs.Reports.{AreTold}
use Rattle.check_core.specs.declared.report.Checked.{Checked}
use Rattle.check_core.specs.declared.report.Checked.TheVariants.{Refused, Taken}
use Rattle.mvt_check.specs.Cards.{KnowsOrigins}
use Rattle.mvt_check.specs.Checking.{is_refused_so}

pub refused_so : (units : List (List ℕ)) (library : List LibraryProcedure) (lines : List (List ℕ)) (checked : Checked) → AreTold units library lines checked →
    is_refused_so checked ≡ is_err (job_of units library lines)
refused_so units library lines (Taken plan origins) told = sym (ap is_err told.0)
refused_so units library lines (Refused first later) told = sym (ap is_err told.0)

-- where its steps come from is told of it
pub origins_so : (units : List (List ℕ)) (library : List LibraryProcedure) (lines : List (List ℕ)) (checked : Checked) → AreTold units library lines checked →
    KnowsOrigins library lines checked
origins_so units library lines (Taken plan origins) told = told.1
origins_so units library lines (Refused first later) told = tt
