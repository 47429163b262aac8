-- What a view is made of.
use Rattle.std.specs.Prelude.{Bool, List}
use Rattle.view_core.specs.declared.scene.PlainView.{PlainView}
use Rattle.view_core.specs.declared.scene.Scene.{Scene}

-- a scene, whether an ABEND came, and which tests are met
pub record Shows : Type 0 where
  pub scene : Scene
  pub abended : Bool
  pub met : List Bool

abbrev pub shows : PlainView → Shows
shows v = record { scene = v.scene.value; abended = v.abended; met = v.met.items }
