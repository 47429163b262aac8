-- What is known while a deck is judged.
use Rattle.std.specs.Prelude.{◌≡◌, ℕ, List, Ok, Err}
use Rattle.card_core.specs.declared.statement.Statement.{Statement}
use Rattle.jcl_cards.specs.declared.job.JobCard.{JobCard}
use Rattle.jcl_deck.specs.declared.deck.Deck.{Deck}
use Rattle.jcl_deck.specs.Decks.{deck_of, start}
use Rattle.jcl_deck.specs.Places.{denoted}
use Rattle.jcl_job.specs.Jobs.{job_in}
use Rattle.jcl_procs.specs.declared.expansion.Expansion.{Expansion}
use Rattle.jcl_procs.specs.declared.step.FlatStep.{FlatStep}
use Rattle.jcl_procs.specs.Counting.{up_to}
use Rattle.jcl_procs.specs.Expansions.{and_then, flat_of}
use Rattle.jcl_refs.specs.Plans.{most_steps}
use Rattle.proc_library.specs.declared.library.LibraryProcedure.{LibraryProcedure}
use Rattle.deck_places.specs.Places.{IsAmong}
use Rattle.deck_places.specs.Stands.{HaveOrigins}
use Rattle.deck_places.specs.Statements.{RefusedAt, TakenTo, read_from}
use Rattle.deck_places.specs.declared.judge.Judged.{Judged}
use Rattle.deck_places.specs.declared.judge.Judged.TheVariants as judged
use Rattle.deck_places.specs.declared.judge.Read.{Read}
use Rattle.deck_places.specs.declared.judge.Read.TheVariants as read

-- statements are taken one by one, or one of them is refused
abbrev pub AreRead : List Statement → Read → Type 0
AreRead statements (read.Taken place) = read_from 0 start statements ≡ TakenTo (denoted place)
AreRead statements (read.Refused k cause) = read_from 0 start statements ≡ RefusedAt k cause

-- they are a deck with this job, and its steps, up to the most that a job may have, are these
pub record Has (library : List LibraryProcedure) (statements : List Statement) (job : JobCard) (expansion : Expansion) : Type 0 where
  pub deck : Deck
  pub so : deck_of statements ≡ Ok deck
  pub own : deck.job ≡ job
  pub steps : List FlatStep
  pub flat : flat_of library deck ≡ Ok steps
  pub kept : expansion ≡ up_to most_steps steps

-- they denote a job, whose steps come from there, or are refused at a place among them
abbrev pub AreJudged : List (List ℕ) → List LibraryProcedure → List Statement → Judged → Type 0
AreJudged units library statements (judged.Taken plan origins) =
    (and_then (deck_of statements) (job_in units library) ≡ Ok plan) × HaveOrigins library statements origins.items
AreJudged units library statements (judged.Refused cause at) =
    (and_then (deck_of statements) (job_in units library) ≡ Err cause) × IsAmong units library statements cause at
