-- Scenes in a list, found by what they show.
use Rattle.std.specs.Prelude.{◌≡◌, ℕ, List, Option, Some, None, slice_get}
use Rattle.jcl_plan.specs.declared.plan.JobPlan.{JobPlan}
use Rattle.view_core.specs.declared.scene.Scene.{Scene}
use Rattle.packed_core.specs.Shown.{alone}

-- a scene that shows the same as another has this number
pub record HasScene (plan : JobPlan) (date k : ℕ) (scenes : List Scene) (scene : Scene) (n : ℕ) : Type 0 where
  pub one : Scene
  pub there : slice_get scenes n ≡ Some one
  pub same : alone plan date k one ≡ alone plan date k scene

-- a scene that shows the same as the one with number i before the part has number n
abbrev pub HasSceneFrom : JobPlan → ℕ → ℕ → List Scene → List Scene → ℕ → ℕ → Type 0
HasSceneFrom plan date k before scenes i n = (scene : Scene) → slice_get before i ≡ Some scene → HasScene plan date k scenes scene n

-- a scene's number, or that none of these shows the same
abbrev pub FindsScene : JobPlan → ℕ → ℕ → List Scene → Scene → Option ℕ → Type 0
FindsScene plan date k scenes scene (Some n) = HasScene plan date k scenes scene n
FindsScene plan date k scenes scene None =
    (i : ℕ) (w : Scene) → slice_get scenes i ≡ Some w → alone plan date k w ≡ alone plan date k scene → ⊥
