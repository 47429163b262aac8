-- What a new date is to all that goes on: nothing, up to the next time that a job asks for its admission. An admitted job's date is the one at its admission,
-- which is fixed for it.
use Rattle.std.specs.Prelude.{◌≡◌, ℕ, ◌+◌, ◌≤◌, List, [], ◌∷◌, length, Option}
use Rattle.date_core.specs.Dates.{IsDate}
use Rattle.jcl_plan.specs.declared.entry.Entry.{Entry}
use Rattle.jcl_plan.specs.declared.entry.Entry.TheVariants as entry
use Rattle.jcl_plan.specs.declared.entry.JobLine.{JobLine}
use Rattle.jcl_plan.specs.declared.plan.JobPlan.{JobPlan}
use Rattle.jcl_meaning.specs.declared.state.Own.{Own}
use Rattle.machine_meaning.specs.declared.machine.TheConstants.{MOST_EVENTS}
use Rattle.world_meaning.specs.declared.event.Event.{Event}
use Rattle.world_meaning.specs.declared.event.Event.TheVariants as event
use Rattle.world_meaning.specs.Choices.{AtAction, AtAdmission, Choice, Closed, choice_of_event}
use Rattle.world_meaning.specs.Headlines.{lines_of}
use Rattle.world_meaning.specs.Readings.{Denoting}
use Rattle.world_meaning.specs.Transitions.{Runs, Transition, past, taken}
use Rattle.world_meaning.specs.Turns.{Advances}
use Rattle.world_meaning.specs.Worlds.{Admission, Config, Running, Shared, World, counted}

abbrev pub on_date : Shared → ℕ → Shared
on_date s day = record s { date = day }

-- A turn of an admitted job writes the same lines on any other date, and leaves the same, but for that date.
abbrev pub TurnsIgnoreTheDate : Type 0
TurnsIgnoreTheDate = (c : Config) (old new : Shared) (r : Running) (plan : JobPlan) (a : Admission) (count : ℕ) (own : Own) (lines : List JobLine)
    (runs : Option Running) (day : ℕ) → Advances c old r plan a count own lines new runs →
    Advances c (on_date old day) r plan a count own lines (on_date new day) runs

-- the machine on another date, after so many events
abbrev pub moved : World → ℕ → ℕ → World
moved w day count = record w { shared = on_date w.shared day; events = count }

-- no job asks for its admission
abbrev pub AsksForNone : Choice → Type 0
AsksForNone Closed = Unit {0}
AsksForNone (AtAdmission job plan places lines) = ⊥
AsksForNone (AtAction job cancel a x growth primary) = Unit {0}

-- An event looks at no date where it is not past the last one and no job asks for its admission at it; and so of events one after another.
abbrev pub LooksAtNoDate : {job_of : Denoting} {old : World} {e : Event} {lines : List Entry} {new : World} → Transition job_of old e lines new → Type 0
LooksAtNoDate (past many told same) = ⊥
LooksAtNoDate {job_of = job_of} {old = old} {e = e} {lines = lines} (taken few h) = AsksForNone (choice_of_event job_of (counted old) e lines h.middle h.does)

abbrev pub LookAtNoDate : (job_of : Denoting) (old : World) (events : List Event) (told : List (List Entry)) (new : World) → Runs job_of old events told new → Type 0
LookAtNoDate job_of old [] [] new runs = Unit {0}
LookAtNoDate job_of old (e ∷ es) (lines ∷ more) new runs = LooksAtNoDate runs.1 × LookAtNoDate job_of runs.0 es more new runs.2
LookAtNoDate job_of old [] (lines ∷ more) new runs = Unit {0}
LookAtNoDate job_of old (e ∷ es) [] new runs = Unit {0}

-- From the machine on another date the same events write the same lines, and leave the same machine but for the date.
abbrev pub RunsIgnoreTheDate : Type 0
RunsIgnoreTheDate = (job_of : Denoting) (old new : World) (events : List Event) (told : List (List Entry)) (runs : Runs job_of old events told new) →
    LookAtNoDate job_of old events told new runs → (day count : ℕ) → count + length events ≤ MOST_EVENTS →
    (after : ℕ) × Runs job_of (moved old day count) events told (moved new after (count + length events))

-- The same events behind a new date: the date has its line, each job has the lines that it has without it, and the machine is the same but for the date and the
-- count of events.
pub record ChangesNoLine (job_of : Denoting) (old : World) (day : ℕ) (date : List Entry) (events : List Event) (told : List (List Entry)) (new : World) : Type 0 where
  pub after : ℕ
  pub runs : Runs job_of old (event.Date day ∷ events) (date ∷ told) (moved new after (old.events + 1 + length events))
  pub same : (job : ℕ) → lines_of job (date ∷ told) ≡ lines_of job told

abbrev pub DatesChangeNoLine : Type 0
DatesChangeNoLine = (job_of : Denoting) (old new : World) (events : List Event) (told : List (List Entry)) (runs : Runs job_of old events told new) →
    LookAtNoDate job_of old events told new runs → old.events + 1 + length events ≤ MOST_EVENTS → (day years of_year : ℕ) → IsDate day years of_year →
    ChangesNoLine job_of old day (entry.Date (1900 + years) of_year ∷ []) events told new
