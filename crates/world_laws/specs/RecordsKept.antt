-- The records of a job that an initiator has.
use Rattle.std.specs.Prelude.{◌≡◌, ◌≢◌, ℕ, false, List, length, All, None, Some}
use Rattle.jcl_plan.specs.declared.entry.Entry.{Entry}
use Rattle.jcl_plan.specs.declared.plan.JobPlan.{JobPlan}
use Rattle.cb_meaning.specs.declared.layout.Layout.{Layout}
use Rattle.cb_meaning.specs.Spelled.{Denotes, Records}
use Rattle.cb_meaning.specs.Walks.{is_free, owner_of}
use Rattle.world_meaning.specs.declared.event.Event.{Event}
use Rattle.world_meaning.specs.Cancels.{RunsNot}
use Rattle.world_meaning.specs.Readings.{Denoting}
use Rattle.world_meaning.specs.Records.{AgreeBut, IsQueueLayout, open_fields}
use Rattle.world_meaning.specs.Transitions.{Transition}
use Rattle.world_meaning.specs.Worlds.{Initiator, IsAt, Running, World}

-- the records of a job are in use still, and differ in what is open alone
abbrev pub KeepsRecords : Layout → ℕ → Records → Records → Type 0
KeepsRecords l job old new =
    (n : ℕ) → is_free old n ≡ false → owner_of old n ≡ job → (is_free new n ≡ false) × AgreeBut (open_fields l (old.at n)) (old.at n) (new.at n)

-- So they denote what they denoted.
abbrev pub DenotesStill : Type 0
DenotesStill = (l : Layout) (units : ℕ) (old new : Records) (job : ℕ) (numbers : List ℕ) (plan : JobPlan) → IsQueueLayout l → KeepsRecords l job old new →
    Denotes l units old job numbers plan → Denotes l units new job numbers plan

-- A job stands at one initiator alone, and does not wait.
pub record IsAlone (w : World) (place job : ℕ) : Type 0 where
  pub it : Initiator
  pub running : Running
  pub at : IsAt w place it
  pub runs : it.running ≡ Some running
  pub of_job : running.job ≡ job
  pub not_elsewhere : (other : ℕ) (x : Initiator) → IsAt w other x → other ≢ place → RunsNot x.running job
  pub not_waiting : All (λ x. x.job ≢ job) w.waiting

-- An event that leaves the initiator a job leaves the records of its job.
abbrev pub RecordsStay : Type 0
RecordsStay =
    (job_of : Denoting) (old new : World) (e : Event) (lines : List Entry) (place job : ℕ) (y : Initiator) (numbers : List ℕ) (plan : JobPlan) →
    IsQueueLayout old.config.layout → IsAlone old place job → Transition job_of old e lines new → IsAt new place y → y.running ≢ None →
    Denotes old.config.layout (length old.config.units) old.shared.records job numbers plan →
    Denotes new.config.layout (length new.config.units) new.shared.records job numbers plan
