-- Why and where a deck is refused. (This profile)
use Rattle.std.specs.Prelude.{◌≡◌, ℕ, List, Some, Result, Ok, Err}
use Rattle.card_core.specs.declared.statement.Statement.{Statement}
use Rattle.jcl_deck.specs.Decks.{Place, ended_with, start}
use Rattle.jcl_job.specs.Jobs.{job_of, statements_in}
use Rattle.jcl_plan.specs.declared.fault.Cause.{Cause}
use Rattle.proc_library.specs.declared.library.LibraryProcedure.{LibraryProcedure}
use Rattle.deck_places.specs.Cards.{walk_of}
use Rattle.deck_places.specs.Cuts.{BringsRefusal}
use Rattle.deck_places.specs.Stands.{stood_in, stood_with}
use Rattle.deck_places.specs.Statements.{RefusedAt, TakenTo, read_from}
use Rattle.deck_places.specs.declared.judge.At.{At}
use Rattle.deck_places.specs.declared.judge.At.TheVariants as place
use Rattle.deck_places.specs.declared.judge.Judged.{Judged}
use Rattle.deck_places.specs.declared.judge.Judged.TheVariants.{Refused, Taken}
use Rattle.deck_places.specs.declared.part.Part.TheVariants as part

-- all statements are taken, and the deck's end is refused
pub record IsRefusedEnd (statements : List Statement) (cause : Cause) : Type 0 where
  pub place : Place
  pub before : read_from 0 start statements ≡ TakenTo place
  pub refused : ended_with place.job place ≡ Err cause

-- where statements are refused for this
abbrev pub IsAmong : List (List ℕ) → List LibraryProcedure → List Statement → Cause → At → Type 0
IsAmong units library statements cause (place.Card n) = ⊥
IsAmong units library statements cause (place.Statement k) = read_from 0 start statements ≡ RefusedAt k cause
IsAmong units library statements cause place.End = IsRefusedEnd statements cause
IsAmong units library statements cause (place.Call k) = BringsRefusal part.Calls units library statements k
IsAmong units library statements cause (place.Planned n k) = BringsRefusal (part.Plan n) units library statements k

-- where a deck is refused for this: a card of it, or a place among its statements
abbrev pub IsPlace : List (List ℕ) → List LibraryProcedure → List (List ℕ) → Cause → At → Type 0
IsPlace units library lines cause at = by (statements_in lines)
  where
    by : Result (List Statement) Cause → Type 0
    by (Err fault) = (n : ℕ) × (at ≡ place.Card n) × ((walk_of lines).refused ≡ Some n)
    by (Ok statements) = IsAmong units library statements cause at

-- A deck denotes a job, or is refused: for what `job_of` tells first, at its place.
abbrev pub IsJudged : List (List ℕ) → List LibraryProcedure → List (List ℕ) → Judged → Type 0
IsJudged units library lines (Taken plan origins) = (job_of units library lines ≡ Ok plan) × (stood_in library lines ≡ stood_with lines origins.items)
IsJudged units library lines (Refused cause at) = (job_of units library lines ≡ Err cause) × IsPlace units library lines cause at
