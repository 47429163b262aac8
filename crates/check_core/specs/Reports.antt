-- What is told of a deck. (This profile)
use Rattle.std.specs.Prelude.{◌≡◌, ℕ, List, Ok, Err}
use Rattle.jcl_job.specs.Jobs.{job_of}
use Rattle.proc_library.specs.declared.library.LibraryProcedure.{LibraryProcedure}
use Rattle.deck_places.specs.Places.{IsPlace}
use Rattle.deck_places.specs.Stands.{stood_in, stood_with}
use Rattle.check_core.specs.declared.report.Checked.{Checked}
use Rattle.check_core.specs.declared.report.Checked.TheVariants.{Refused, Taken}
use Rattle.check_core.specs.Insides.{IsInsideAt}
use Rattle.check_core.specs.Spots.{IsSpotOf}

-- Nothing is told of a deck that denotes a job; of another that for which it is refused is told first, and where; at a call with the statement of the called
-- procedure for which it is.
abbrev pub AreTold : List (List ℕ) → List LibraryProcedure → List (List ℕ) → Checked → Type 0
AreTold units library lines (Taken plan origins) = (job_of units library lines ≡ Ok plan) × (stood_in library lines ≡ stood_with lines origins.items)
AreTold units library lines (Refused first later) =
    (job_of units library lines ≡ Err first.cause) × IsPlace units library lines first.cause first.at × IsSpotOf lines first.cause first.at first.spot
    × IsInsideAt library lines first.cause first.at first.inside
