-- The own state of a job whose step begins to run on a scene.
use Rattle.std.specs.Prelude.{◌≡◌, Bool, true, List, [], None}
use Rattle.jcl_plan.specs.declared.outcome.Outcome.{Outcome}
use Rattle.jcl_meaning.specs.declared.state.Own.{Own}
use Rattle.jcl_meaning.specs.History.{abended}
use Rattle.jcl_meaning.specs.Solo.{given}
use Rattle.jcl_meaning.specs.States.{State}
use Rattle.jcl_meaning.specs.Stores.{store_of}
use Rattle.view_core.specs.declared.scene.Scene.{Scene}

pub record IsBegun (scene : Scene) (abend : Bool) (own : Own) : Type 0 where
  pub passed : own.passed ≡ scene.passed
  pub volumes : own.volumes ≡ scene.volumes
  pub abended : abended own.ended ≡ abend
  pub runs : own.runs ≡ true
  pub unended : own.over ≡ None
  pub none_taken : own.dds ≡ []

-- a job with this own state on a scene, where these outcomes are given
abbrev pub state_on : Scene → Own → List Outcome → State
state_on scene own outcomes = record { store = store_of scene.store; own = own; answers = given outcomes }
