-- Every event has a case of the machine's table.
use Rattle.std.specs.Prelude.{◌≡◌, ◌≢◌, ◌⊎◌, ℕ, ◌+◌, ◌<◌, ◌≤◌, Bool, true, ◌&&◌, ◌==◌, false, List, [], ◌∷◌, drop, length, Ok, All}
use Rattle.std.specs.List.{Contains, list_any}
use Rattle.jcl_plan.specs.declared.entry.Entry.{Entry}
use Rattle.jcl_plan.specs.declared.plan.JobPlan.{JobPlan}
use Rattle.jcl_meaning.specs.declared.state.Own.{Own}
use Rattle.jcl_meaning.specs.declared.state.Place.{Place}
use Rattle.jcl_meaning.specs.Acts.{act}
use Rattle.jcl_meaning.specs.Agendas.{Action, agenda}
use Rattle.jcl_meaning.specs.History.{IsStepOutcome}
use Rattle.jcl_meaning.specs.States.{Answers, Fixed, State}
use Rattle.jcl_meaning.specs.Stores.{Store}
use Rattle.cb_meaning.specs.Layouts.{HasOwnFields}
use Rattle.cb_meaning.specs.Needs.{records_needed}
use Rattle.cb_meaning.specs.Spelled.{Records}
use Rattle.cb_meaning.specs.Writable.{kind_at}
use Rattle.walk_laws.specs.WalkLaws.{AreRecords}
use Rattle.world_meaning.specs.declared.event.Event.{Event}
use Rattle.world_meaning.specs.Admissions.{primary_asked}
use Rattle.world_meaning.specs.Lenses.{seen}
use Rattle.world_meaning.specs.Readings.{Denoting, IsWritten}
use Rattle.world_meaning.specs.Starts.{IsStart}
use Rattle.world_meaning.specs.Tracks.{is_kept_for}
use Rattle.world_meaning.specs.Transitions.{Runs, Transition}
use Rattle.world_meaning.specs.Worlds.{Admission, Admitted, Config, Kept, Named, Running, Selected, Shared, Stage, Wanting, World}
use Rattle.law_core.specs.Soundness.{IsSound, RunsAt}

-- some lines, and a machine behind them
pub record HasCase (job_of : Denoting) (w : World) (e : Event) : Type 0 where
  pub lines : List Entry
  pub new : World
  pub follows : Transition job_of w e lines new

-- records with a job written into the first free ones
pub record CanHold (c : Config) (q : Records) (job : ℕ) (plan : JobPlan) : Type 0 where
  pub first : ℕ
  pub records : Records
  pub written : IsWritten c q records job plan first

-- A plan for which there are free records enough can be written into them: what the writing of a job gives.
abbrev pub CanBeWritten : Denoting → World → Type 0
CanBeWritten job_of w = (deck : List (List ℕ)) (plan : JobPlan) → job_of deck ≡ Ok plan → records_needed plan ≤ length w.shared.records.free →
    CanHold w.config w.shared.records (w.jobs + 1) plan

-- of what is kept on the volume of a place, tracks for the set that a DD of a job is to make there: as many as it asks for
abbrev pub is_asked : JobPlan → ℕ → Place → Kept → Bool
is_asked plan job p k = is_kept_for job p p.serial k && k.tracks == primary_asked (kind_at plan.steps p.step p.dd)

abbrev pub HasTracks : List Kept → JobPlan → ℕ → Place → Type 0
HasTracks kept plan job p = list_any (is_asked plan job p) kept ≡ true

-- its primaries are granted, and its steps end with what is an end
pub record AreFair (answers : Answers) : Type 0 where
  pub granted : answers.primary ≡ true
  pub ends : All IsStepOutcome answers.outcomes

abbrev pub with_answers : Store → Own → Answers → State
with_answers store own answers = record { store = store; own = own; answers = answers }

-- A job may yet make a set at a place: for some answers the next of these actions makes it, or it leaves what may.
abbrev pub MayMake : Fixed → List Action → Store → Own → Place → Type 0
MayMake fixed [] store own p = ⊥
MayMake fixed (a ∷ actions) store own p = (answers : Answers) × AreFair answers × (Contains (act fixed a (with_answers store own answers)).made p
    ⊎ MayMake fixed actions (act fixed a (with_answers store own answers)).state.store (act fixed a (with_answers store own answers)).state.own p)

-- For whatever a job may yet make tracks are kept.
abbrev pub IsCovered : Config → Shared → ℕ → JobPlan → Admission → ℕ → Own → Type 0
IsCovered c s job plan a count own =
    (p : Place) → MayMake a.fixed (drop count (agenda plan c.programs)) (seen job s.store) own p → HasTracks (s.kept p.serial) plan job p

-- An admitted job has an action left, and an assured one tracks for all that it may yet make.
abbrev pub CanGoOn : Config → Shared → ℕ → Stage → Type 0
CanGoOn c s job (Selected first) = Unit {0}
CanGoOn c s job (Wanting plan) = Unit {0}
CanGoOn c s job (Named plan) = Unit {0}
CanGoOn c s job (Admitted plan a count own) = (count < length (agenda plan c.programs)) × (a.assured ≡ true → IsCovered c s job plan a count own)

-- a job that is admitted, and assured
abbrev pub is_assured_at : Stage → Bool
is_assured_at (Selected first) = false
is_assured_at (Wanting plan) = false
is_assured_at (Named plan) = false
is_assured_at (Admitted plan a count own) = a.assured

-- The job of an initiator, which is assured.
pub record HasAssured (w : World) (job : ℕ) : Type 0 where
  pub place : ℕ
  pub running : Running
  pub runs : RunsAt w place running
  pub its : running.job ≡ job
  pub assured : is_assured_at running.stage ≡ true

-- What the machine has for its next events: a set that waits for a writer has a line, each job can go on, and tracks are kept for assured jobs alone.
pub record IsSupplied (w : World) : Type 0 where
  pub spooled : All (λ set. set.lines ≢ []) w.shared.spool
  pub running : (place : ℕ) (r : Running) → RunsAt w place r → CanGoOn w.config w.shared r.job r.stage
  pub kept : (serial : List ℕ) (k : Kept) → Contains (w.shared.kept serial) k → HasAssured w k.job

-- and what its queue is: the fields of each record are apart, and records in use are of bytes
pub record HasWholeQueue (w : World) : Type 0 where
  pub fields : HasOwnFields w.config.layout
  pub records : AreRecords w.shared.records

-- Whatever the event, the machine has a case of the table for it.
abbrev pub EachEventHasACase : Type 0
EachEventHasACase =
    (job_of : Denoting) (w : World) (e : Event) → IsSound w → IsSupplied w → HasWholeQueue w → CanBeWritten job_of w → HasCase job_of w e

-- The start is supplied, and so is what follows.
abbrev pub StartsSupplied : Type 0
StartsSupplied = (w : World) → IsStart w → IsSupplied w

abbrev pub SuppliesAreKept : Type 0
SuppliesAreKept =
    (job_of : Denoting) (old new : World) (e : Event) (lines : List Entry) → IsSound old → IsSupplied old → Transition job_of old e lines new → IsSupplied new

-- So whatever the events so far, the next one has a case.
abbrev pub NextEventHasACase : Type 0
NextEventHasACase = (job_of : Denoting) (start w : World) (before : List Event) (told : List (List Entry)) (e : Event) → IsStart start →
    Runs job_of start before told w → HasWholeQueue w → CanBeWritten job_of w → HasCase job_of w e
