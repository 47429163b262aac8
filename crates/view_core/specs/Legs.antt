-- What a step that runs comes to on a scene, and what the job's end does, after an ABEND or none, whatever tests are met.
use Rattle.std.specs.Prelude.{◌≡◌, ℕ, Bool, List, [], ◌∷◌, length, Option, Result, Ok, Err}
use Rattle.jcl_plan.specs.declared.outcome.Abend.TheVariants.{User}
use Rattle.jcl_plan.specs.declared.outcome.Outcome.{Outcome}
use Rattle.jcl_plan.specs.declared.outcome.Outcome.TheVariants as outcome
use Rattle.jcl_plan.specs.declared.plan.JobPlan.{JobPlan}
use Rattle.jcl_plan.specs.declared.plan.StepPlan.{StepPlan}
use Rattle.jcl_meaning.specs.declared.state.Own.{Own}
use Rattle.jcl_meaning.specs.declared.state.Place.{Place}
use Rattle.jcl_meaning.specs.Agendas.{lefts_from}
use Rattle.jcl_meaning.specs.Solo.{run}
use Rattle.jcl_meaning.specs.States.{Fixed}
use Rattle.path_laws.specs.Steps.{behind_start}
use Rattle.view_domain.specs.declared.crossed.Stop.{Stop}
use Rattle.view_core.specs.declared.leave.LeftDd.{LeftDd}
use Rattle.view_core.specs.declared.legs.Legs.{Legs}
use Rattle.view_core.specs.declared.legs.Legs.TheVariants as legs
use Rattle.view_core.specs.declared.scene.Scene.{Scene}
use Rattle.view_core.specs.declared.walk.Under.{Under}
use Rattle.view_core.specs.Lefts.{LeavesAll, left_actions}
use Rattle.view_core.specs.Scenes.{IsBegun, state_on}
use Rattle.view_core.specs.Walks.{EndsIn, StopsIn}

pub record HasEnded (fixed : Fixed) (n : ℕ) (step : StepPlan) (scene : Scene) (abend : Bool) (outcome : Outcome) (end : Result Scene Stop) : Type 0 where
  pub own : Own
  pub begun : IsBegun scene abend own
  pub ends : EndsIn fixed n step (state_on scene own (outcome ∷ [])) end

pub record HasMade (fixed : Fixed) (n : ℕ) (step : StepPlan) (scene : Scene) (abend : Bool) (made : List Place) : Type 0 where
  pub own : Own
  pub begun : IsBegun scene abend own
  pub makes : (outcomes : List Outcome) → (run fixed (behind_start n step) (state_on scene own outcomes)).made ≡ made

-- a take meets a fault; or it ended, by a code and by an ABEND
pub record HasStopped (fixed : Fixed) (n : ℕ) (step : StepPlan) (scene : Scene) (abend : Bool) (stop : Stop) : Type 0 where
  pub own : Own
  pub begun : IsBegun scene abend own
  pub stops : (outcomes : List Outcome) → StopsIn fixed n step (state_on scene own outcomes) stop

abbrev pub AreLegs : Fixed → ℕ → StepPlan → Scene → Bool → Legs → Type 0
AreLegs fixed n step scene abend (legs.Refused stop) = HasStopped fixed n step scene abend stop
AreLegs fixed n step scene abend (legs.Ended made by_code by_abend) = HasMade fixed n step scene abend made.items
    × HasEnded fixed n step scene abend (outcome.Code 0) by_code × HasEnded fixed n step scene abend (outcome.Abend (User 0)) by_abend

-- the job's end deals with what was passed and not received: all without a fault, or up to the first that meets one
pub record EndsJob (fixed : Fixed) (plan : JobPlan) (scene : Scene) (abend : Bool) (stop : Option Stop) : Type 0 where
  pub old : Under
  pub new : Under
  pub lefts : List LeftDd
  pub store : old.store ≡ scene.store
  pub begun : IsBegun scene abend old.course.own
  pub these : left_actions lefts ≡ lefts_from 1 plan.steps
  pub leaves : LeavesAll fixed (length plan.steps) lefts old stop new
