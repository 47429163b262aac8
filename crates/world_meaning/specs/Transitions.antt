-- What may follow an event: the table of cases. An event is refused exactly where its case says so, and then changes the count of events alone.
use Rattle.std.specs.Prelude.{◌≡◌, ℕ, ◌<◌, ◌≤◌, List, [], ◌∷◌, ◌++◌, map, Option, Some, None}
use Rattle.jcl_plan.specs.declared.entry.Entry.{Entry}
use Rattle.jcl_plan.specs.declared.entry.Entry.TheVariants as entry
use Rattle.jcl_plan.specs.declared.entry.JobLine.{JobLine}
use Rattle.jcl_plan.specs.declared.fault.Cause.TheVariants.{A}
use Rattle.jcl_plan.specs.declared.fault.EventFault.TheVariants.{NoSuchInitiator, PastLimit}
use Rattle.machine_meaning.specs.declared.machine.TheConstants.{MOST_EVENTS}
use Rattle.world_meaning.specs.declared.event.Event.{Event}
use Rattle.world_meaning.specs.declared.event.Event.TheVariants as event
use Rattle.world_meaning.specs.Admissions.{Admits, explained, fixed_at}
use Rattle.world_meaning.specs.Cancels.{CancelsJob}
use Rattle.world_meaning.specs.Devices.{EndsDevice, Writes}
use Rattle.world_meaning.specs.Displays.{SetsDate, shown_lines}
use Rattle.world_meaning.specs.Holdings.{Holds, ReadsRecords}
use Rattle.world_meaning.specs.Lenses.{seen}
use Rattle.world_meaning.specs.Readings.{Denoting, Reads}
use Rattle.world_meaning.specs.Records.{Reopened}
use Rattle.world_meaning.specs.Selections.{Selects}
use Rattle.world_meaning.specs.Turns.{Advances}
use Rattle.world_meaning.specs.Worlds.{Admitted, Config, HasNoInitiator, Initiator, IsAt, Named, Running, Selected, Shared, Stage, Wanting, World, counted, of_job, with_running}
use Rattle.world_meaning.specs.Zaps.{ZapsRecord}

-- a turn of a job: by how far its initiator is with it
abbrev pub GoesOn : Config → Shared → Running → Stage → List JobLine → Shared → Option Running → Type 0
GoesOn c old r (Selected first) lines new runs = ReadsRecords c old r first lines new runs
GoesOn c old r (Wanting plan) lines new runs = Holds old r plan lines new runs
GoesOn c old r (Named plan) lines new runs = Admits c old r plan lines new runs
GoesOn c old r (Admitted plan a count own) lines new runs = Advances c old r plan a count own lines new runs

-- what of it explains a risk
abbrev pub explained_by : (c : Config) (old : Shared) (r : Running) (stage : Stage) (lines : List JobLine) (new : Shared) (runs : Option Running) →
    GoesOn c old r stage lines new runs → List JobLine
explained_by c old r (Selected first) lines new runs g = []
explained_by c old r (Wanting plan) lines new runs g = []
explained_by c old r (Named plan) lines new runs g = explained c.explains (fixed_at c old r.job plan g.places) plan (seen r.job old.store) lines
explained_by c old r (Admitted plan a count own) lines new runs g = []

-- PATH lines stand behind the line that they explain, before another of the same turn.
abbrev pub behind_first : ℕ → List JobLine → List Entry → List Entry
behind_first job [] path = path
behind_first job (first ∷ lines) path = entry.Job job first ∷ (path ++ of_job job lines)

abbrev pub told_with : ℕ → List JobLine → List JobLine → List Entry
told_with job lines [] = of_job job lines
told_with job lines (first ∷ path) = behind_first job lines (map (entry.Path job) (first ∷ path))

pub record Goes (old : World) (place : ℕ) (x : Initiator) (r : Running) (lines : List Entry) (new : World) : Type 0 where
  pub job_lines : List JobLine
  pub shared : Shared
  pub runs : Option Running
  pub goes : GoesOn old.config old.shared r r.stage job_lines shared runs
  pub told : lines ≡ told_with r.job job_lines (explained_by old.config old.shared r r.stage job_lines shared runs goes)
  pub leaves : new ≡ record old { shared = shared; initiators = with_running old.initiators place x runs }

abbrev pub Acts : World → ℕ → Initiator → Option Running → List Entry → World → Type 0
Acts old place x None lines new = Selects old place x lines new
Acts old place x (Some r) lines new = Goes old place x r lines new

pub data Turns (old : World) (number : ℕ) (lines : List Entry) (new : World) : Type 0 where
  unknown : HasNoInitiator old number → lines ≡ entry.Refused (A NoSuchInitiator) ∷ [] → new ≡ old → Turns old number lines new
  acts : (place : ℕ) (x : Initiator) → IsAt old place x → x.number ≡ number → Acts old place x x.running lines new → Turns old number lines new

pub data Shows (old : World) (lines : List Entry) (new : World) : Type 0 where
  shown : lines ≡ shown_lines old → new ≡ old → Shows old lines new

abbrev pub Does : Denoting → World → Event → List Entry → World → Type 0
Does job_of old (event.Read deck) lines new = Reads job_of old deck lines new
Does job_of old (event.Turn number) lines new = Turns old number lines new
Does job_of old (event.DeviceEnd serial) lines new = EndsDevice old serial lines new
Does job_of old (event.Write class) lines new = Writes old class lines new
Does job_of old (event.Cancel job) lines new = CancelsJob old job lines new
Does job_of old (event.Zap n offset bytes) lines new = ZapsRecord old n offset bytes lines new
Does job_of old event.Display lines new = Shows old lines new
Does job_of old (event.Date day) lines new = SetsDate old day lines new

-- Behind each event the links, the status bytes and what stands in free records may be any.
pub record Happens (job_of : Denoting) (old : World) (e : Event) (lines : List Entry) (new : World) : Type 0 where
  pub middle : World
  pub does : Does job_of old e lines middle
  pub reopened : Reopened middle.config.layout middle.shared new.shared
  pub rest : new ≡ record middle { shared = new.shared }

pub data Transition (job_of : Denoting) (old : World) (e : Event) (lines : List Entry) (new : World) : Type 0 where
  past : MOST_EVENTS ≤ old.events → lines ≡ entry.Refused (A PastLimit) ∷ [] → new ≡ old → Transition job_of old e lines new
  taken : old.events < MOST_EVENTS → Happens job_of (counted old) e lines new → Transition job_of old e lines new

-- events one after another, and the lines of each
abbrev pub Runs : Denoting → World → List Event → List (List Entry) → World → Type 0
Runs job_of old [] [] new = new ≡ old
Runs job_of old (e ∷ es) (lines ∷ more) new = (mid : World) × Transition job_of old e lines mid × Runs job_of mid es more new
Runs job_of old [] (lines ∷ more) new = ⊥
Runs job_of old (e ∷ es) [] new = ⊥
