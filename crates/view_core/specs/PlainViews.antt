-- What a plain view shows.
use Rattle.std.specs.Prelude.{ℕ, Bool, false, List, [], ◌∷◌, take, drop, length, replicate, None, if◌then◌else◌}
use Rattle.jcl_plan.specs.declared.plan.JobPlan.{JobPlan}
use Rattle.jcl_plan.specs.declared.plan.StepPlan.{StepPlan}
use Rattle.jcl_meaning.specs.Names.{names_of}
use Rattle.jcl_meaning.specs.Parts.{part_of}
use Rattle.jcl_meaning.specs.Stores.{store_of}
use Rattle.jcl_meaning.specs.Takes.{dd_volume}
use Rattle.jcl_meaning.specs.Views.{View, shown_set, steps_refer}
use Rattle.view_core.specs.declared.scene.PlainView.{PlainView}
use Rattle.view_core.specs.declared.scene.Scene.{Scene}
use Rattle.view_core.specs.Shows.{Shows, shows}

-- which tests of each of these steps are met, where all stand in one list
abbrev pub by_step : List StepPlan → List Bool → List (List Bool)
by_step [] met = []
by_step (s ∷ steps) met = take (length s.tests.items) met ∷ by_step steps (drop (length s.tests.items) met)

-- what a scene shows, with these tests met, and after an ABEND or none
abbrev pub shown_parts : JobPlan → ℕ → ℕ → Scene → Bool → List Bool → View
shown_parts plan date k scene abend met = record {
  sets = λ key serial. shown_set ((part_of (names_of plan) (store_of scene.store)).set key serial) date;
  catalog = (part_of (names_of plan) (store_of scene.store)).catalog;
  passed = scene.passed;
  volumes = λ step dd. if steps_refer (drop k plan.steps) step dd then dd_volume scene.volumes step dd else None;
  abended = abend;
  job_tests = take (length plan.tests.items) met;
  step_tests = by_step (drop k plan.steps) (drop (length plan.tests.items) met);
}

abbrev pub shown_so : JobPlan → ℕ → ℕ → Shows → View
shown_so plan date k v = shown_parts plan date k v.scene v.abended v.met

abbrev pub shown_by : JobPlan → ℕ → ℕ → PlainView → View
shown_by plan date k v = shown_so plan date k (shows v)

-- bits of tests that are not met
abbrev pub no_bits : ℕ → List Bool
no_bits count = replicate count false
