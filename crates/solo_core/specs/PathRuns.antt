-- What a runner answers: a run of the definition, and its faults.
use Rattle.std.specs.Prelude.{◌≡◌, map, ℕ, Bool, true, List, Option}
use Rattle.jcl_meaning.specs.declared.store.SoloStore.{SoloStore}
use Rattle.jcl_meaning.specs.Solo.{IsSoloRun, Ran, at_start, fixed_alone, run, solo_of}
use Rattle.solo_core.specs.declared.path.PathRun.{PathRun}
use Rattle.solo_core.specs.Meets.{met_of}
use Rattle.jcl_plan.specs.declared.outcome.Outcome.{Outcome}
use Rattle.jcl_plan.specs.declared.plan.JobPlan.{JobPlan}
use Rattle.jcl_meaning.specs.declared.program.SoloProgram.{SoloProgram}
use Rattle.jcl_meaning.specs.declared.solo.SoloAnswers.{SoloAnswers}
use Rattle.jcl_meaning.specs.declared.state.Place.{Place}
use Rattle.jcl_meaning.specs.Agendas.{agenda}
use Rattle.jcl_meaning.specs.Stores.{store_of}

pub record IsPathRun (result : PathRun) (start : SoloStore) (ran : Ran) : Type 0 where
  pub run : IsSoloRun result.run start ran
  pub faults : map met_of result.faults ≡ ran.faults

-- the run of a job alone by its programs, with these outcomes, cancels and grants
abbrev pub ran_alone : SoloStore → JobPlan → List Place → ℕ → List SoloProgram → List Outcome → List (Option ℕ) → List Bool → Ran
ran_alone store plan places date programs outcomes cancels grants =
    run (fixed_alone store plan places date) (agenda plan programs)
    (at_start (store_of store) (record { outcomes = outcomes; cancels = cancels; grants = grants; primary = true }))

-- the solo meaning of a job in a store
abbrev pub solo_in : SoloStore → JobPlan → List Place → ℕ → List SoloProgram → SoloAnswers → Ran
solo_in store plan places date programs answers = solo_of (fixed_alone store plan places date) plan (store_of store) programs answers
