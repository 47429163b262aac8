-- The actions of a step carried out one after another, up to the first fault.
use Rattle.std.specs.Prelude.{◌≡◌, ℕ, ◌+◌, ◌-◌, suc, true, false, List, [], ◌∷◌, ◌++◌, length, Option, Some, None, Result, Ok, Err}
use Rattle.jcl_plan.specs.declared.fault.Fault.{Fault}
use Rattle.jcl_plan.specs.declared.outcome.Outcome.{Outcome}
use Rattle.jcl_plan.specs.declared.plan.DdPlan.{DdPlan}
use Rattle.jcl_plan.specs.declared.plan.StepPlan.{StepPlan}
use Rattle.jcl_meaning.specs.declared.state.Place.{Place}
use Rattle.jcl_meaning.specs.Acts.{act}
use Rattle.jcl_meaning.specs.EndActs.{finished}
use Rattle.disp_core.specs.Courses.{CarriedEnd}
use Rattle.disp_core.specs.declared.course.Course.{Course}
use Rattle.jcl_meaning.specs.Agendas.{Action, Dispose, Take, disposes_from, takes_from}
use Rattle.jcl_meaning.specs.Solo.{Ran, run}
use Rattle.jcl_meaning.specs.States.{Answers, Fixed, State}
use Rattle.jcl_meaning.specs.Stores.{store_of}
use Rattle.path_meaning.specs.Paths.{fault_place}
use Rattle.path_laws.specs.Steps.{behind_start}
use Rattle.view_domain.specs.declared.crossed.Stop.{Stop}
use Rattle.view_core.specs.declared.scene.Scene.{Scene}
use Rattle.view_core.specs.declared.walk.Under.{Under}

-- a part under way as the state of a job
abbrev pub state_of : Under → Answers → State
state_of u answers = record { store = store_of u.store; own = u.course.own; answers = answers }

-- no fault was met, this state was reached, and these sets were made
pub record RanTo (ran : Ran) (t : State) (sets : List Place) : Type 0 where
  pub faults : ran.faults ≡ []
  pub state : ran.state ≡ t
  pub made : ran.made ≡ sets

-- of these actions the one behind so many met this fault, and none before it met one
pub record MeetsAt (fixed : Fixed) (actions : List Action) (s : State) (place : ℕ) (action : Action) (fault : Fault) : Type 0 where
  pub before : List Action
  pub after : List Action
  pub these : actions ≡ before ++ action ∷ after
  pub at : length before ≡ place
  pub none_before : (run fixed before s).faults ≡ []
  pub meets : (act fixed action (run fixed before s).state).meets ≡ Some fault

-- a DD met it, in a take, in a disposition or at the job's end
pub record StopsAt (fixed : Fixed) (by_dd : ℕ → ℕ → DdPlan → Action) (actions : List Action) (s : State) (place : ℕ) (stop : Stop) : Type 0 where
  pub plan : DdPlan
  pub meets : MeetsAt fixed actions s place (by_dd stop.step stop.dd plan) stop.fault

-- DDs of step n are taken, whatever answers are left and the primaries granted: all without a fault, or up to the first that meets one
abbrev pub TakesAll : Fixed → ℕ → List DdPlan → Under → List Place → Option Stop → Under → List Place → Type 0
TakesAll fixed n dds old made None new new_made = (sets : List Place) × (new_made ≡ made ++ sets)
    × ((answers : Answers) → answers.primary ≡ true → RanTo (run fixed (takes_from n 1 dds) (state_of old answers)) (state_of new answers) sets)
TakesAll fixed n dds old made (Some stop) new new_made = (stop.step ≡ n) × (stop.ended ≡ n - 1)
    × ((answers : Answers) → answers.primary ≡ true → (place : ℕ) × (stop.at ≡ place + 1) × StopsAt fixed Take (takes_from n 1 dds) (state_of old answers) place stop)

-- and disposed of
abbrev pub DisposesAll : Fixed → ℕ → List DdPlan → Under → Option Stop → Under → Type 0
DisposesAll fixed n dds old None new = (answers : Answers) → RanTo (run fixed (disposes_from n 1 dds) (state_of old answers)) (state_of new answers) []
DisposesAll fixed n dds old (Some stop) new = (stop.step ≡ n) × (stop.ended ≡ n)
    × ((answers : Answers) → (place : ℕ) × (stop.at ≡ length dds + 2 + place) × StopsAt fixed Dispose (disposes_from n 1 dds) (state_of old answers) place stop)

-- a fault that is met first by what is behind a step's start, told by its place in the whole step
pub record StopsIn (fixed : Fixed) (n : ℕ) (step : StepPlan) (s : State) (stop : Stop) : Type 0 where
  pub place : ℕ
  pub at : stop.at ≡ suc place
  pub action : Action
  pub meets : MeetsAt fixed (behind_start n step) s place action stop.fault
  pub told : (steps : ℕ) → fault_place steps action ≡ Some (record { step = stop.step; dd = stop.dd; ended = stop.ended })

-- no fault is met, and this scene is left
pub record LeavesScene (ran : Ran) (scene : Scene) : Type 0 where
  pub faults : ran.faults ≡ []
  pub store : ran.state.store ≡ store_of scene.store
  pub passed : ran.state.own.passed ≡ scene.passed
  pub volumes : ran.state.own.volumes ≡ scene.volumes

abbrev pub EndsIn : Fixed → ℕ → StepPlan → State → Result Scene Stop → Type 0
EndsIn fixed n step s (Err stop) = StopsIn fixed n step s stop
EndsIn fixed n step s (Ok scene) = LeavesScene (run fixed (behind_start n step) s) scene

-- the dispositions of a step that ended were done, and this scene is left, or one met a fault
abbrev pub IsDisposed : Fixed → ℕ → List DdPlan → Under → Under → Result Scene Stop → Type 0
IsDisposed fixed n dds shut w (Err stop) = DisposesAll fixed n dds shut (Some stop) w
IsDisposed fixed n dds shut w (Ok scene) = DisposesAll fixed n dds shut None w
    × (scene ≡ record { store = w.store; passed = w.course.own.passed; volumes = w.course.own.volumes })

-- a step whose DDs are taken ended by this outcome, and came to that
abbrev pub EndsFrom : Fixed → ℕ → List DdPlan → Under → Outcome → Result Scene Stop → Type 0
EndsFrom fixed n dds v outcome end =
    (c : Course) × CarriedEnd (λ s. finished n s) outcome false v.course c
    × ((w : Under) × IsDisposed fixed n dds (record { store = v.store; course = c }) w end)
