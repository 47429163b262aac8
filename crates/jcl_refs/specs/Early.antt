-- A job that is refused for the number of a step's DDNAMEs before the DDs of that step are settled.
use Rattle.std.specs.Prelude.{◌≡◌, ℕ, ◌+◌, Bool, List, [], ◌++◌, drop, length, map, take, Result, Ok, Err}
use Rattle.jcl_plan.specs.declared.fault.Cause.{Cause}
use Rattle.jcl_plan.specs.declared.fault.Cause.TheVariants.{P}
use Rattle.jcl_plan.specs.declared.fault.StatementFault.TheVariants.{TooManyDdNames}
use Rattle.jcl_plan.specs.declared.plan.StepPlan.{StepPlan}
use Rattle.jcl_plan.specs.declared.plan.Test.{Test}
use Rattle.jcl_procs.specs.declared.step.FlatStep.{FlatStep}
use Rattle.jcl_refs.specs.Plans.{tests_of, with_dds_left}
use Rattle.jcl_refs.specs.Planning.{steps_by}

-- the steps with the DDs of the first ones settled, and with those of the others
abbrev pub settled_first : ℕ → List FlatStep → List FlatStep
settled_first count steps = map with_dds_left (take count steps) ++ drop count steps

abbrev pub settled_behind : ℕ → List FlatStep → List FlatStep
settled_behind count steps = take count steps ++ map with_dds_left (drop count steps)

-- none of these steps is refused
abbrev pub AreTaken : List FlatStep → List Bool → Type 0
AreTaken steps many = (plans : List StepPlan) × (steps_by steps 1 [] many steps ≡ Ok plans)

-- what a step with too many DDNAMEs is refused for, where those before it are taken
abbrev pub refusal_by : Result (List Test) Cause → Cause
refusal_by (Ok tests) = P TooManyDdNames
refusal_by (Err fault) = fault

abbrev pub many_refusal : List FlatStep → FlatStep → Cause
many_refusal front s = refusal_by (tests_of s.call (length front + 1) front s.condition.tests.items)

-- the job is refused so, whatever the DDs of the other steps are once they are settled
abbrev pub IsEarly : List FlatStep → List Bool → ℕ → Cause → Type 0
IsEarly steps many count cause = steps_by (settled_behind count steps) 1 [] many (settled_behind count steps) ≡ Err cause
