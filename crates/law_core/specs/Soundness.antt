-- What holds of the machine at any time. The laws of single events ask it; the start has it, and each event keeps it.
use Rattle.std.specs.Prelude.{◌≡◌, ◌≢◌, ℕ, ◌≤◌, List, map, Option, Some, None, All, length}
use Rattle.std.specs.List.{Contains}
use Rattle.jcl_plan.specs.declared.entry.Entry.{Entry}
use Rattle.jcl_plan.specs.declared.plan.JobPlan.{JobPlan}
use Rattle.jcl_meaning.specs.Names.{IsCompatible}
use Rattle.jcl_meaning.specs.WellFormed.{AreWellFormedPrograms}
use Rattle.part_laws.specs.Keeping.{HasSoundGroups}
use Rattle.enq_core.specs.declared.table.Hold.{Hold}
use Rattle.enq_core.specs.declared.table.Want.{Want}
use Rattle.cb_meaning.specs.Spelled.{Denotes, Records}
use Rattle.world_meaning.specs.declared.event.Event.{Event}
use Rattle.world_meaning.specs.Holdings.{wants_of}
use Rattle.world_meaning.specs.Lenses.{seen}
use Rattle.world_meaning.specs.Readings.{Denoting}
use Rattle.world_meaning.specs.Records.{IsQueueLayout}
use Rattle.world_meaning.specs.Starts.{AreInOrder, IsStart}
use Rattle.world_meaning.specs.Transitions.{Transition}
use Rattle.world_meaning.specs.Worlds.{Admitted, Config, Initiator, IsAt, Named, Running, Selected, Stage, Wanting, World}
use Rattle.world_laws.specs.Beside.{RunsFit}
use Rattle.plain.specs.Lists.{Differ}

-- the plan of a job whose names are held
abbrev pub named_plan : Stage → Option JobPlan
named_plan (Selected first) = None
named_plan (Wanting plan) = None
named_plan (Named plan) = Some plan
named_plan (Admitted plan a count own) = Some plan

-- the plan of a job whose records are read
abbrev pub plan_read : Stage → Option JobPlan
plan_read (Selected first) = None
plan_read (Wanting plan) = Some plan
plan_read (Named plan) = Some plan
plan_read (Admitted plan a count own) = Some plan

-- all of these names are held for a job
abbrev pub AreHeld : List Hold → ℕ → List Want → Type 0
AreHeld holds job wants = All (λ want. Contains holds (record { job = job; name = want.name; exclusive = want.exclusive })) wants

-- The job of the initiator at a place.
pub record RunsAt (w : World) (place : ℕ) (r : Running) : Type 0 where
  pub it : Initiator
  pub at : IsAt w place it
  pub running : it.running ≡ Some r

-- its number was given, and it is there alone
pub record IsThereAlone (w : World) (place job : ℕ) : Type 0 where
  pub numbered : job ≤ w.jobs
  pub not_waiting : All (λ v. v.job ≢ job) w.waiting
  pub alone : (other : ℕ) (s : Running) → RunsAt w other s → s.job ≡ job → other ≡ place

-- these records denote its plan
pub record IsDenoted (c : Config) (q : Records) (job : ℕ) (plan : JobPlan) : Type 0 where
  pub numbers : List ℕ
  pub denoted : Denotes c.layout (length c.units) q job numbers plan

pub record IsSound (w : World) : Type 0 where
  -- of the configuration
  pub layout : IsQueueLayout w.config.layout
  pub programs : AreWellFormedPrograms w.config.programs
  pub initiators : Differ (map (λ x. x.number) w.initiators)
  -- jobs wait in the order of reading, and their numbers were given
  pub in_order : AreInOrder 0 w.waiting
  pub numbered : All (λ v. v.job ≤ w.jobs) w.waiting
  pub alone : (place : ℕ) (r : Running) → RunsAt w place r → IsThereAlone w place r.job
  -- the names of a job are held from NAMES on, and jobs that hold names are compatible
  pub held : (place : ℕ) (r : Running) (plan : JobPlan) → RunsAt w place r → named_plan r.stage ≡ Some plan →
      AreHeld w.shared.holds r.job (wants_of plan)
  pub compatible : (place other : ℕ) (r s : Running) (plan q : JobPlan) → RunsAt w place r → RunsAt w other s → place ≢ other →
      named_plan r.stage ≡ Some plan → named_plan s.stage ≡ Some q → IsCompatible plan q
  -- the records of a job denote its plan from their reading on
  pub denoted : (place : ℕ) (r : Running) (plan : JobPlan) → RunsAt w place r → plan_read r.stage ≡ Some plan →
      IsDenoted w.config w.shared.records r.job plan
  -- the own state of an admitted job fits what is left of its agenda
  pub fits : (place : ℕ) (x : Initiator) → IsAt w place x → RunsFit w.config x.running
  -- the numbers of groups are 1 to 9999 and fall
  pub groups : (job : ℕ) → HasSoundGroups (seen job w.shared.store)

-- The start is sound, and so is what follows.
abbrev pub StartsSound : Type 0
StartsSound = (w : World) → IsStart w → IsSound w

abbrev pub SoundnessIsKept : Type 0
SoundnessIsKept = (job_of : Denoting) (old new : World) (e : Event) (lines : List Entry) → IsSound old → Transition job_of old e lines new → IsSound new
