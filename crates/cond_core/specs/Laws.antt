-- Codes that agree on the tests of a job leave each later step its fate. (This profile)
use Rattle.std.specs.Prelude.{◌≡◌, ℕ, Bool, List, ◌∷◌, ◌++◌}
use Rattle.jcl_plan.specs.declared.outcome.Outcome.TheVariants.{Code}
use Rattle.jcl_plan.specs.declared.plan.StepPlan.{StepPlan}
use Rattle.jcl_plan.specs.declared.plan.Test.{Test}
use Rattle.jcl_meaning.specs.declared.state.Ended.{Ended}
use Rattle.cond_core.specs.Classes.{Agree}
use Rattle.cond_core.specs.Fates.{fate_after}

-- some step ended with a code, before or after others
abbrev pub with_code : List Ended → List Ended → ℕ → ℕ → List Ended
with_code others more step code = others ++ record { step = step; outcome = Code code } ∷ more

abbrev pub AgreeingCodesLeaveTheSameFate : Type 0
AgreeingCodesLeaveTheSameFate = (faulted : Bool) (job_tests : List Test) (plan : StepPlan) (others more : List Ended) (step c d : ℕ) →
    Agree job_tests c d → Agree plan.tests.items c d →
    fate_after faulted job_tests (with_code others more step c) plan ≡ fate_after faulted job_tests (with_code others more step d) plan
