-- Scenes, as they are kept.
use Rattle.std.specs.Prelude.{List, map}
use Rattle.view_core.specs.declared.scene.Scene.{Scene}

-- a scene before a part
pub record Entry : Type 0 where
  pub scene : Scene

abbrev pub scenes_of : List Entry → List Scene
scenes_of entries = map (λ e. e.scene) entries
