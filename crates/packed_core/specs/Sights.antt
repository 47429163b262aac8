-- The scenes before a part, as they were told for it.
use Rattle.std.specs.Prelude.{◌≡◌, ℕ, List, [], Option, None, Some, map, slice_get}
use Rattle.std.specs.Sync.OnceLock.{Named}
use Rattle.view_core.specs.declared.scene.Scene.{Scene}
use Rattle.packed_core.specs.declared.sights.Cast.{Cast}

pub record Sight : Type 0 where
  pub part : ℕ
  pub scenes : List Scene

abbrev pub scenes_in : Cast → List Scene
scenes_in cast = map (λ rc. rc.value) cast.scenes.items

abbrev pub scenes_told : Option Cast → List Scene
scenes_told None = []
scenes_told (Some cast) = scenes_in cast

-- for each of the first parts the place where its scenes are told
abbrev pub AreSeals : (ℕ → ℕ) → List Named → Type 0
AreSeals seals places = (k : ℕ) (place : Named) → slice_get places k ≡ Some place → place.id ≡ seals k
