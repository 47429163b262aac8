-- Jobs beside one another: what an event leaves of a job that does not act.
use Rattle.std.specs.Prelude.{◌≡◌, ◌≢◌, ℕ, List, drop, Option, Some, None, true}
use Rattle.jcl_plan.specs.declared.entry.Entry.{Entry}
use Rattle.jcl_plan.specs.declared.entry.JobLine.{JobLine}
use Rattle.jcl_plan.specs.declared.plan.JobPlan.{JobPlan}
use Rattle.jcl_meaning.specs.declared.names.HeldName.{HeldName}
use Rattle.jcl_meaning.specs.declared.state.Own.{Own}
use Rattle.jcl_meaning.specs.Agendas.{agenda}
use Rattle.jcl_meaning.specs.Names.{names_of}
use Rattle.jcl_meaning.specs.Parts.{SamePart}
use Rattle.part_laws.specs.Fits.{Fits}
use Rattle.part_laws.specs.Keeping.{AreCompatible}
use Rattle.world_meaning.specs.declared.event.Event.{Event}
use Rattle.world_meaning.specs.declared.event.Event.TheVariants as event
use Rattle.world_meaning.specs.Cancels.{is_admitted}
use Rattle.world_meaning.specs.Lenses.{seen}
use Rattle.world_meaning.specs.Readings.{Denoting}
use Rattle.world_meaning.specs.Transitions.{Transition}
use Rattle.world_meaning.specs.Turns.{Advances}
use Rattle.world_meaning.specs.Worlds.{Admission, Admitted, Config, Initiator, IsAt, Named, Running, Selected, Shared, Stage, Wanting, World}

-- the own state of an admitted job fits what is left of its agenda
abbrev pub FitsAt : Config → Stage → Type 0
FitsAt c (Selected first) = Unit {0}
FitsAt c (Wanting plan) = Unit {0}
FitsAt c (Named plan) = Unit {0}
FitsAt c (Admitted plan a count own) = Fits (names_of plan) a.fixed.meanings (drop count (agenda plan c.programs)) own

abbrev pub RunsFit : Config → Option Running → Type 0
RunsFit c None = Unit {0}
RunsFit c (Some r) = FitsAt c r.stage

-- an admitted job is another one, and its names are compatible with these
abbrev pub IsBesideAt : ℕ → List HeldName → ℕ → Stage → Type 0
IsBesideAt job names other (Selected first) = Unit {0}
IsBesideAt job names other (Wanting plan) = Unit {0}
IsBesideAt job names other (Named plan) = Unit {0}
IsBesideAt job names other (Admitted plan a count own) = (other ≢ job) × AreCompatible (names_of plan) names

abbrev pub RunsBeside : ℕ → List HeldName → Option Running → Type 0
RunsBeside job names None = Unit {0}
RunsBeside job names (Some r) = IsBesideAt job names r.job r.stage

-- The event is the turn of this initiator.
abbrev pub IsTurnOf : Event → Initiator → Type 0
IsTurnOf (event.Turn number) x = x.number ≡ number
IsTurnOf (event.Read deck) x = ⊥
IsTurnOf (event.DeviceEnd serial) x = ⊥
IsTurnOf (event.Write class) x = ⊥
IsTurnOf (event.Cancel job) x = ⊥
IsTurnOf (event.Zap n offset bytes) x = ⊥
IsTurnOf event.Display x = ⊥
IsTurnOf (event.Date day) x = ⊥

-- It is the cancel of this job.
abbrev pub IsCancelOf : Event → ℕ → Type 0
IsCancelOf (event.Cancel job) other = other ≡ job
IsCancelOf (event.Turn number) other = ⊥
IsCancelOf (event.Read deck) other = ⊥
IsCancelOf (event.DeviceEnd serial) other = ⊥
IsCancelOf (event.Write class) other = ⊥
IsCancelOf (event.Zap n offset bytes) other = ⊥
IsCancelOf event.Display other = ⊥
IsCancelOf (event.Date day) other = ⊥

-- each initiator whose turn it is has a job beside this one, and its own state fits
pub record TurnsBeside (w : World) (e : Event) (job : ℕ) (names : List HeldName) : Type 0 where
  pub beside : (place : ℕ) (x : Initiator) → IsAt w place x → IsTurnOf e x → RunsBeside job names x.running
  pub fits : (place : ℕ) (x : Initiator) → IsAt w place x → IsTurnOf e x → RunsFit w.config x.running

-- A turn of another job changes nothing that a job with these names sees, where the names of both are compatible.
abbrev pub TurnKeepsPart : Type 0
TurnKeepsPart =
    (c : Config) (old : Shared) (r : Running) (plan : JobPlan) (a : Admission) (count : ℕ) (own : Own) (lines : List JobLine) (new : Shared)
    (runs : Option Running) (job : ℕ) (names : List HeldName) → r.job ≢ job → AreCompatible (names_of plan) names →
    Fits (names_of plan) a.fixed.meanings (drop count (agenda plan c.programs)) own → Advances c old r plan a count own lines new runs →
    SamePart names (seen job old.store) (seen job new.store)

-- Nor does any event that is no turn of the job itself.
abbrev pub PartsStay : Type 0
PartsStay = (job_of : Denoting) (old new : World) (e : Event) (lines : List Entry) (job : ℕ) (names : List HeldName) → TurnsBeside old e job names →
    Transition job_of old e lines new → SamePart names (seen job old.shared.store) (seen job new.shared.store)

-- What a turn leaves to its initiator fits.
abbrev pub TurnFits : Type 0
TurnFits =
    (c : Config) (old : Shared) (r : Running) (plan : JobPlan) (a : Admission) (count : ℕ) (own : Own) (lines : List JobLine) (new : Shared)
    (runs : Option Running) → r.stage ≡ Admitted plan a count own → FitsAt c r.stage → Advances c old r plan a count own lines new runs → RunsFit c runs

-- So does what any event leaves to the initiator of an admitted job.
abbrev pub FitsStay : Type 0
FitsStay = (job_of : Denoting) (old new : World) (e : Event) (lines : List Entry) (place : ℕ) (x y : Initiator) (r : Running) →
    IsAt old place x → x.running ≡ Some r → is_admitted r.stage ≡ true → FitsAt old.config r.stage → Transition job_of old e lines new →
    IsAt new place y → RunsFit new.config y.running

-- an event that is not the turn of an initiator, nor the cancel of its job before that is admitted
abbrev pub MayEnd : Event → Option Running → Type 0
MayEnd e None = ⊥
MayEnd e (Some r) = IsCancelOf e r.job × (is_admitted r.stage ≢ true)

pub record LeavesAlone (e : Event) (x : Initiator) : Type 0 where
  pub no_turn : IsTurnOf e x → ⊥
  pub no_cancel : MayEnd e x.running → ⊥

abbrev pub RunningStays : Type 0
RunningStays = (job_of : Denoting) (old new : World) (e : Event) (lines : List Entry) (place : ℕ) (x : Initiator) → IsAt old place x → LeavesAlone e x →
    Transition job_of old e lines new → IsAt new place x
