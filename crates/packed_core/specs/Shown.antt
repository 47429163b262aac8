-- What rows show.
use Rattle.std.specs.Prelude.{◌≡◌, ◌<◌, ℕ, Bool, false, List, [], None, Some, drop, length, map, slice_get, slice_index_or, take}
use Rattle.jcl_plan.specs.declared.plan.JobPlan.{JobPlan}
use Rattle.jcl_plan.specs.declared.plan.StepPlan.{StepPlan}
use Rattle.jcl_meaning.specs.declared.names.HeldName.{HeldName}
use Rattle.jcl_meaning.specs.Names.{names_of}
use Rattle.jcl_meaning.specs.Views.{View}
use Rattle.view_core.specs.declared.scene.Scene.{Scene}
use Rattle.view_core.specs.PlainViews.{by_step}
use Rattle.view_core.specs.Same.{shown_alone}
use Rattle.packed_core.specs.Rooms.{room_at}
use Rattle.packed_core.specs.Words.{bit, met_of}

-- where there is no scene
abbrev pub nothing_shown : View
nothing_shown = record {
  sets = λ key serial. None;
  catalog = λ name. None;
  passed = [];
  volumes = λ step dd. None;
  abended = false;
  job_tests = [];
  step_tests = [];
}

-- what a scene shows by itself before a part
abbrev pub alone : JobPlan → ℕ → ℕ → Scene → View
alone plan date k scene = shown_alone (names_of plan) date (drop k plan.steps) scene

-- a scene shows the same before these steps and before those
abbrev pub ShowsAlike : List StepPlan → List StepPlan → Scene → Type 0
ShowsAlike later other scene = (names : List HeldName) (date : ℕ) → shown_alone names date other scene ≡ shown_alone names date later scene

-- after an ABEND or none, and with these tests met
abbrev pub with_bits : JobPlan → ℕ → View → Bool → List Bool → View
with_bits plan k v abended met = record {
  sets = v.sets;
  catalog = v.catalog;
  passed = v.passed;
  volumes = v.volumes;
  abended = abended;
  job_tests = take (length plan.tests.items) met;
  step_tests = by_step (drop k plan.steps) (drop (length plan.tests.items) met);
}

abbrev pub row_shown : JobPlan → ℕ → ℕ → List Scene → List ℕ → View
row_shown plan date k scenes row =
    with_bits plan k (slice_index_or (map (alone plan date k) scenes) (slice_index_or row 0 0) nothing_shown) (bit row 0) (met_of (room_at plan k) row)

-- no two of these scenes show the same by themselves
abbrev pub AreApart : JobPlan → ℕ → ℕ → List Scene → Type 0
AreApart plan date k scenes = (i j : ℕ) (a b : Scene) → i < j → slice_get scenes i ≡ Some a → slice_get scenes j ≡ Some b →
    alone plan date k a ≡ alone plan date k b → ⊥
