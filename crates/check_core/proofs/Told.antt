-- What is told first of a deck is that for which it is refused, where it is.
use Rattle.std.proofs.Common.{◌≡◌, ℕ, List, Err, refl, subst, sym}
use Rattle.jcl_job.specs.Jobs.{job_of}
use Rattle.jcl_plan.specs.declared.fault.Cause.{Cause}
use Rattle.proc_library.specs.declared.library.LibraryProcedure.{LibraryProcedure}
use Rattle.deck_places.specs.Cards.{walk_of}
use Rattle.deck_places.specs.Places.{IsJudged, IsPlace}
use Rattle.deck_places.specs.declared.judge.At.{At}
use Rattle.deck_places.specs.declared.judge.At.TheVariants as place
use Rattle.deck_places.specs.declared.judge.Judged.TheVariants.{Refused}
use Rattle.check_core.specs.Insides.{IsInsideAt}
use Rattle.check_core.specs.Spots.{IsCardShown, IsSpotOf}
use Rattle.check_core.specs.declared.report.Report.{Report}
use Rattle.check_core.specs.declared.report.Spot.{Spot}

pub told_so : (units : List (List ℕ)) (library : List LibraryProcedure) (lines own : List (List ℕ)) (cause : Cause) (at : At) (first : Report) →
    IsJudged units library lines (Refused cause at) → first.cause ≡ cause → first.at ≡ at →
    (IsPlace units library own cause at → IsSpotOf own cause at first.spot) → IsInsideAt library own cause at first.inside → own ≡ lines →
    (job_of units library lines ≡ Err first.cause) × IsPlace units library lines first.cause first.at × IsSpotOf lines first.cause first.at first.spot
    × IsInsideAt library lines first.cause first.at first.inside
told_so units library lines own cause at first judged of_cause at_place spot inside same =
    rw (of_cause, at_place) (
      judged.0,
      judged.1,
      subst (λ l. IsSpotOf l cause at first.spot) same (spot (subst (λ l. IsPlace units library l cause at) (sym same) judged.1)),
      subst (λ l. IsInsideAt library l cause at first.inside) same inside,
    )

-- at another place than a statement a card of it is shown
pub shown_elsewhere : (lines : List (List ℕ)) (cause : Cause) (at : At) → ((k : ℕ) → at ≡ place.Statement k → ⊥) → (spot : Spot) →
    IsCardShown (walk_of lines).begun at spot.card → IsSpotOf lines cause at spot
shown_elsewhere lines cause (place.Card n) other spot shown = shown
shown_elsewhere lines cause (place.Statement k) other spot shown = absurd (other k refl)
shown_elsewhere lines cause place.End other spot shown = shown
shown_elsewhere lines cause (place.Call k) other spot shown = shown
shown_elsewhere lines cause (place.Planned part k) other spot shown = shown
