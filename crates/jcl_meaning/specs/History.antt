-- Completion codes of earlier steps, tests on them, and what becomes of a step. (GC28-6704, COND parameter)
use Rattle.std.specs.Prelude.{ℕ, ◌≤◌, Bool, true, false, not, ◌&&◌, ◌==◌, nat_lt, nat_le, List, Option, Some, None}
use Rattle.std.specs.List.{list_any}
use Rattle.jcl_plan.specs.declared.outcome.Outcome.{Outcome}
use Rattle.jcl_plan.specs.declared.outcome.Outcome.TheVariants.{Code, Abend, Bypassed, Flushed}
use Rattle.jcl_plan.specs.declared.outcome.Fate.{Fate}
use Rattle.jcl_plan.specs.declared.outcome.Fate.TheVariants as fate
use Rattle.jcl_plan.specs.declared.plan.AfterAbend.{AfterAbend}
use Rattle.jcl_plan.specs.declared.plan.AfterAbend.TheVariants.{Unsaid, Even, Only}
use Rattle.jcl_plan.specs.declared.plan.Operator.{Operator}
use Rattle.jcl_plan.specs.declared.plan.Operator.TheVariants.{Gt, Ge, Eq, Lt, Le, Ne}
use Rattle.jcl_plan.specs.declared.plan.Test.{Test}
use Rattle.jcl_meaning.specs.declared.state.Ended.{Ended}
use Rattle.jcl_plan.specs.declared.outcome.TheConstants.{GREATEST_CODE}

-- what a step may come to: a completion code is 0 to 4095
abbrev pub IsStepOutcome : Outcome → Type 0
IsStepOutcome (Code completion) = completion ≤ GREATEST_CODE
IsStepOutcome (Abend a) = Unit {0}
IsStepOutcome Bypassed = Unit {0}
IsStepOutcome Flushed = Unit {0}

-- code operator completion-code
abbrev pub holds : Operator → ℕ → ℕ → Bool
holds Gt code completion = nat_lt completion code
holds Ge code completion = nat_le completion code
holds Eq code completion = code == completion
holds Lt code completion = nat_lt code completion
holds Le code completion = nat_le code completion
holds Ne code completion = not (code == completion)

-- a test names a step, or looks at each
abbrev pub looks_at : Option ℕ → ℕ → Bool
looks_at None step = true
looks_at (Some named) step = named == step

-- a step that ended by a code meets a test; one that did not meets none
abbrev pub met_by : Test → ℕ → Outcome → Bool
met_by test step (Code completion) = looks_at test.step step && holds test.operator test.code completion
met_by test step (Abend a) = false
met_by test step Bypassed = false
met_by test step Flushed = false

-- some earlier step meets the test
abbrev pub satisfied : List Ended → Test → Bool
satisfied ended test = list_any (λ e. met_by test e.step e.outcome) ended

abbrev pub some_satisfied : List Ended → List Test → Bool
some_satisfied ended tests = list_any (satisfied ended) tests

abbrev pub is_abend : Outcome → Bool
is_abend (Code completion) = false
is_abend (Abend a) = true
is_abend Bypassed = false
is_abend Flushed = false

-- an earlier step ended by an ABEND
abbrev pub abended : List Ended → Bool
abended ended = list_any (λ e. is_abend e.outcome) ended

-- What becomes of a step, the first that applies: a fault ended the job; a JOB test is met; an earlier ABEND and neither EVEN nor ONLY;
-- ONLY and no earlier ABEND; a test is met.
--       faulted JOB test  EVEN, ONLY  ABEND  test
abbrev pub fate_of : Bool → Bool → AfterAbend → Bool → Bool → Fate
fate_of true job after before met = fate.Flushed
fate_of false true after before met = fate.Bypassed
fate_of false false Unsaid true met = fate.Flushed
fate_of false false Only false met = fate.Bypassed
fate_of false false Unsaid false true = fate.Bypassed
fate_of false false Even before true = fate.Bypassed
fate_of false false Only true true = fate.Bypassed
fate_of false false Unsaid false false = fate.Run
fate_of false false Even before false = fate.Run
fate_of false false Only true false = fate.Run

abbrev pub is_run : Fate → Bool
is_run fate.Run = true
is_run fate.Bypassed = false
is_run fate.Flushed = false
