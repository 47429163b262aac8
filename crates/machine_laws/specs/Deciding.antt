-- What the volumes decide, as they were before an event: which sets grow, which are made, and where a job's sets are placed.
use Rattle.std.specs.Prelude.{◌≡◌, ℕ, Bool, true, false, List, [], ◌∷◌, Some}
use Rattle.std.specs.List.{Contains}
use Rattle.jname_core.specs.declared.key.Key.{Key}
use Rattle.jcl_plan.specs.declared.entry.Entry.{Entry}
use Rattle.jcl_plan.specs.declared.entry.Entry.TheVariants as entry
use Rattle.jcl_plan.specs.declared.entry.JobLine.{JobLine}
use Rattle.jcl_plan.specs.declared.entry.JobLine.TheVariants as line
use Rattle.jcl_plan.specs.declared.fault.Fault.TheVariants.{F6}
use Rattle.jcl_plan.specs.declared.outcome.Abend.TheVariants.{SB37}
use Rattle.jcl_plan.specs.declared.plan.DdKind.TheVariants.{Set}
use Rattle.jcl_plan.specs.declared.plan.DdPlan.{DdPlan}
use Rattle.jcl_plan.specs.declared.plan.JobPlan.{JobPlan}
use Rattle.jcl_plan.specs.declared.plan.SetPlan.{SetPlan}
use Rattle.jcl_plan.specs.declared.plan.StepPlan.{StepPlan}
use Rattle.jcl_meaning.specs.declared.program.Move.{Move}
use Rattle.jcl_meaning.specs.declared.state.Place.{Place}
use Rattle.jcl_meaning.specs.declared.state.Resolution.TheVariants.{Means}
use Rattle.jcl_meaning.specs.Agendas.{Ask, Take}
use Rattle.jcl_meaning.specs.Resolutions.{meaning_at}
use Rattle.jcl_meaning.specs.TakeActs.{target_at}
use Rattle.jcl_meaning.specs.Takes.{is_known, looked_at, primary_of}
use Rattle.request_core.specs.Requests.{Growth, growth_asked}
use Rattle.session_input.specs.declared.event.Event.{Event}
use Rattle.world_meaning.specs.Choices.{AtAction, AtAdmission, choice_of}
use Rattle.world_meaning.specs.Turns.{Advanced}
use Rattle.world_meaning.specs.Worlds.{Admission, World, of_job}
use Rattle.shared_core.specs.Rooms.{grants_growth, grants_new}
use Rattle.place_core.specs.Placings.{placed}
use Rattle.sched_core.specs.Systems.{Along, Drives, Machine, Steps, world_of}

-- The event is this action of a job, in a step of the machine.
pub record IsAction (old : Machine) (e : Event) (lines : List Entry) (new : World) (s : Steps old e lines new) (job : ℕ) (cancel : Bool) (admission : Admission)
    (x : Advanced) : Type 0 where
  pub growth : Bool
  pub primary : Bool
  pub chosen : choice_of s.0 ≡ AtAction job cancel admission x growth primary

-- Its lines are those that the event writes.
abbrev pub ActionsAreTold : Type 0
ActionsAreTold = (old : Machine) (e : Event) (lines : List Entry) (new : World) (s : Steps old e lines new) (job : ℕ) (cancel : Bool) (admission : Admission)
    (x : Advanced) → IsAction old e lines new s job cancel admission x → lines ≡ of_job job x.done.lines

-- A request in whose place SB37 stands asked for tracks behind those of its set, and the volumes had no room for them.
abbrev pub GrowthIsRefusedAt : (old : Machine) (e : Event) (lines : List Entry) (new : World) → Steps old e lines new → Type 0
GrowthIsRefusedAt old e lines new s = (job : ℕ) (cancel : Bool) (admission : Admission) (x : Advanced) (step : StepPlan) (move : Move) →
    IsAction old e lines new s job cancel admission x → x.action ≡ Ask step move → x.done.lines ≡ line.Abend SB37 ∷ [] →
    (g : Growth) × (growth_asked cancel step move x.before.own x.before.store ≡ Some g) × (grants_growth job old.parts.store g.key g.serial g.tracks ≡ false)

abbrev pub GrowthIsRefused : Type 0
GrowthIsRefused = (old : Machine) (e : Event) (lines : List Entry) (new : World) (s : Steps old e lines new) → GrowthIsRefusedAt old e lines new s

-- Where F6 is told of a DD with a key, the volume where its set is looked for, one that is configured, had no room for its primary.
abbrev pub PrimaryIsRefusedAt : (old : Machine) (e : Event) (lines : List Entry) (new : World) → Steps old e lines new → Type 0
PrimaryIsRefusedAt old e lines new s = (job : ℕ) (cancel : Bool) (admission : Admission) (x : Advanced) (n dd : ℕ) (d : DdPlan) (p : SetPlan) (key : Key)
    (backs : List JobLine) → IsAction old e lines new s job cancel admission x →
    x.action ≡ Take n dd d → d.kind ≡ Set p → meaning_at admission.fixed.meanings n dd ≡ Means key → x.done.lines ≡ line.Fault F6 n dd ∷ backs →
    (serial : List ℕ) × (looked_at (target_at admission.fixed n dd p key x.before) ≡ Some serial) × (is_known admission.fixed.volumes (Some serial) ≡ true)
    × (grants_new job old.parts.store key (record { step = n; dd = dd; serial = serial }) (primary_of p.space) ≡ false)

abbrev pub PrimaryIsRefused : Type 0
PrimaryIsRefused = (old : Machine) (e : Event) (lines : List Entry) (new : World) (s : Steps old e lines new) → PrimaryIsRefusedAt old e lines new s

-- A job's sets are placed by the rule, on the volumes as they were.
abbrev pub SetsArePlacedAt : (old : Machine) (e : Event) (lines : List Entry) (new : World) → Steps old e lines new → Type 0
SetsArePlacedAt old e lines new s = (job : ℕ) (plan : JobPlan) (places : List Place) (told : List JobLine) → choice_of s.0 ≡ AtAdmission job plan places told →
    places ≡ placed old.parts.store.volumes (world_of old).config.units job plan

abbrev pub SetsArePlaced : Type 0
SetsArePlaced = (old : Machine) (e : Event) (lines : List Entry) (new : World) (s : Steps old e lines new) → SetsArePlacedAt old e lines new s

-- All of that, of a step.
pub record AreDecided (old : Machine) (e : Event) (lines : List Entry) (new : World) (s : Steps old e lines new) : Type 0 where
  pub growth : GrowthIsRefusedAt old e lines new s
  pub primary : PrimaryIsRefusedAt old e lines new s
  pub places : SetsArePlacedAt old e lines new s

-- Of each step along a chain of machines.
pub record AreDecidedAlong (old : Machine) (events : List Event) (entries : List (List Entry)) (new : Machine) (chain : Drives old events entries new) : Type 0 where
  pub along : Along (λ m e lines next s. AreDecided m e lines (world_of next) s) old events entries new chain

-- An SB37 among the lines of an event is the one line of a request of its job, and the volumes had no room for the tracks that it asked for.
pub record IsRefusedGrowth (old : Machine) (e : Event) (lines : List Entry) (new : World) (s : Steps old e lines new) (job : ℕ) : Type 0 where
  pub cancel : Bool
  pub admission : Admission
  pub x : Advanced
  pub step : StepPlan
  pub move : Move
  pub action : IsAction old e lines new s job cancel admission x
  pub asks : x.action ≡ Ask step move
  pub told : x.done.lines ≡ line.Abend SB37 ∷ []
  pub growth : Growth
  pub asked : growth_asked cancel step move x.before.own x.before.store ≡ Some growth
  pub refused : grants_growth job old.parts.store growth.key growth.serial growth.tracks ≡ false

abbrev pub RefusedGrowthIsTold : Type 0
RefusedGrowthIsTold = (old : Machine) (e : Event) (lines : List Entry) (new : World) (s : Steps old e lines new) (job : ℕ) →
    Contains lines (entry.Job job (line.Abend SB37)) → IsRefusedGrowth old e lines new s job
