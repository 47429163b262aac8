-- What becomes of a step after a history: whether a fault ended the job, the JOB tests, and how the earlier steps came out. (GC28-6704, COND
-- parameter; JOB tests are this profile's)
use Rattle.std.specs.Prelude.{Bool, List}
use Rattle.jcl_plan.specs.declared.outcome.Fate.{Fate}
use Rattle.jcl_plan.specs.declared.plan.AfterAbend.{AfterAbend}
use Rattle.jcl_plan.specs.declared.plan.StepPlan.{StepPlan}
use Rattle.jcl_plan.specs.declared.plan.Test.{Test}
use Rattle.jcl_meaning.specs.declared.state.Ended.{Ended}
use Rattle.jcl_meaning.specs.History.{abended, fate_of, some_satisfied}

-- that of a step with this word on an ABEND, of whose own tests one is met or none
abbrev pub fate_behind : Bool → List Test → List Ended → AfterAbend → Bool → Fate
fate_behind faulted job_tests ended after_abend test_met =
    fate_of faulted (some_satisfied ended job_tests) after_abend (abended ended) test_met

abbrev pub fate_after : Bool → List Test → List Ended → StepPlan → Fate
fate_after faulted job_tests ended step = fate_behind faulted job_tests ended step.after_abend (some_satisfied ended step.tests.items)
