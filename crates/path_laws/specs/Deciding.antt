-- Whether a job is safe has an answer.
use Rattle.std.specs.Prelude.{◌≡◌, ℕ, ◌⊎◌, List}
use Rattle.jcl_plan.specs.declared.fault.Fault.{Fault}
use Rattle.jcl_plan.specs.declared.outcome.Outcome.{Outcome}
use Rattle.jcl_plan.specs.declared.plan.JobPlan.{JobPlan}
use Rattle.jcl_meaning.specs.Agendas.{path_agenda}
use Rattle.jcl_meaning.specs.Names.{names_of}
use Rattle.jcl_meaning.specs.Solo.{nothing_own}
use Rattle.jcl_meaning.specs.States.{Fixed}
use Rattle.jcl_meaning.specs.Stores.{Store}
use Rattle.part_laws.specs.Fits.{Fits}
use Rattle.path_meaning.specs.Paths.{IsSafe, MeetsFault}

-- on some path a fault is met
pub record SomeFault (fixed : Fixed) (plan : JobPlan) (store : Store) : Type 0 where
  pub fault : Fault
  pub step : ℕ
  pub dd : ℕ
  pub path : List Outcome
  pub meets : MeetsFault fixed plan store fault step dd path

-- A job meets no fault, however its steps end, or on some path it meets one.
abbrev pub SafeOrMeets : Type 0
SafeOrMeets = (fixed : Fixed) (plan : JobPlan) (store : Store) → fixed.job_tests ≡ plan.tests.items →
    Fits (names_of plan) fixed.meanings (path_agenda plan) nothing_own → IsSafe fixed plan store ⊎ SomeFault fixed plan store
