-- What becomes of a step after what came before it: `fate` gives this. (cond_core)
use Rattle.std.specs.Prelude.{◌≡◌, ℕ, ◌++◌, ◌∷◌, [], true, false, List, codes, Some, None}
use Rattle.jcl_plan.specs.declared.outcome.Abend.TheVariants as abend
use Rattle.jcl_plan.specs.declared.outcome.Fate.TheVariants as fate
use Rattle.jcl_plan.specs.declared.outcome.Outcome.{Outcome}
use Rattle.jcl_plan.specs.declared.outcome.Outcome.TheVariants.{Abend, Bypassed, Code, Flushed}
use Rattle.jcl_plan.specs.declared.plan.AfterAbend.{AfterAbend}
use Rattle.jcl_plan.specs.declared.plan.AfterAbend.TheVariants.{Even, Only, Unsaid}
use Rattle.jcl_plan.specs.declared.plan.Operator.TheVariants.{Eq, Ge, Gt, Le, Lt, Ne}
use Rattle.jcl_plan.specs.declared.plan.StepPlan.{StepPlan}
use Rattle.jcl_plan.specs.declared.plan.Test.{Test}
use Rattle.jcl_meaning.specs.declared.state.Ended.{Ended}
use Rattle.cond_core.specs.Fates.{fate_after}
use Rattle.view_rows.specs.CodeClasses.{test_of}

abbrev pub step_with : AfterAbend → List Test → StepPlan
step_with after tests = record {
  name = None;
  procedure_step = None;
  program = codes "IEFBR14";
  after_abend = after;
  tests = record { items = tests };
  dds = [];
}

abbrev pub ended : ℕ → Outcome → Ended
ended step outcome = record { step = step; outcome = outcome }

-- the first step was bypassed, the second flushed
abbrev pub not_run : List Ended
not_run = ended 1 Bypassed ∷ ended 2 Flushed ∷ []

-- A code of 4095 is tested.
pub record TestsTheGreatestCode : Type 0 where
  pub greater : fate_after false [] (ended 1 (Code 4095) ∷ []) (step_with Unsaid (test_of 4095 Gt (Some 1) ∷ [])) ≡ fate.Run
  pub greater_or_equal : fate_after false [] (ended 1 (Code 4095) ∷ []) (step_with Unsaid (test_of 4095 Ge (Some 1) ∷ [])) ≡ fate.Bypassed
  pub equal : fate_after false [] (ended 1 (Code 4095) ∷ []) (step_with Unsaid (test_of 4095 Eq (Some 1) ∷ [])) ≡ fate.Bypassed
  pub less : fate_after false [] (ended 1 (Code 4095) ∷ []) (step_with Unsaid (test_of 4095 Lt (Some 1) ∷ [])) ≡ fate.Run
  pub less_or_equal : fate_after false [] (ended 1 (Code 4095) ∷ []) (step_with Unsaid (test_of 4095 Le (Some 1) ∷ [])) ≡ fate.Bypassed
  pub not_equal : fate_after false [] (ended 1 (Code 4095) ∷ []) (step_with Unsaid (test_of 4095 Ne (Some 1) ∷ [])) ≡ fate.Run

-- A fault comes first, and then the tests of the job.
pub record TellsTheFirst : Type 0 where
  pub fault : fate_after true (test_of 4 Lt None ∷ []) (ended 1 (Code 8) ∷ ended 2 (Abend abend.S806) ∷ []) (step_with Unsaid []) ≡ fate.Flushed
  pub met_before_an_abend : fate_after false (test_of 4 Lt None ∷ []) (ended 1 (Code 8) ∷ ended 2 (Abend abend.S806) ∷ []) (step_with Unsaid []) ≡ fate.Bypassed
  pub met : fate_after false (test_of 4 Lt None ∷ []) (ended 1 (Code 8) ∷ []) (step_with Unsaid []) ≡ fate.Bypassed
  pub nothing_before : fate_after false (test_of 4 Lt None ∷ []) [] (step_with Unsaid []) ≡ fate.Run

-- EVEN and ONLY look at an ABEND.
pub record LooksAtAbends : Type 0 where
  pub unsaid_behind_an_abend : fate_after false [] (ended 1 (Abend (abend.User 0)) ∷ []) (step_with Unsaid (test_of 0 Ne (Some 1) ∷ [])) ≡ fate.Flushed
  pub unsaid_behind_a_code : fate_after false [] (ended 1 (Code 0) ∷ []) (step_with Unsaid (test_of 0 Ne (Some 1) ∷ [])) ≡ fate.Run
  pub even_behind_an_abend : fate_after false [] (ended 1 (Abend (abend.User 0)) ∷ []) (step_with Even (test_of 0 Ne (Some 1) ∷ [])) ≡ fate.Run
  pub even_behind_a_code : fate_after false [] (ended 1 (Code 0) ∷ []) (step_with Even (test_of 0 Ne (Some 1) ∷ [])) ≡ fate.Run
  pub only_behind_an_abend : fate_after false [] (ended 1 (Abend (abend.User 0)) ∷ []) (step_with Only (test_of 0 Ne (Some 1) ∷ [])) ≡ fate.Run
  pub only_behind_a_code : fate_after false [] (ended 1 (Code 0) ∷ []) (step_with Only (test_of 0 Ne (Some 1) ∷ [])) ≡ fate.Bypassed
  pub even_and_no_test_met : fate_after false [] (ended 1 (Abend (abend.User 0)) ∷ []) (step_with Even (test_of 0 Eq None ∷ [])) ≡ fate.Run
  pub even_and_a_test_met : fate_after false [] (ended 1 (Code 0) ∷ []) (step_with Even (test_of 0 Eq None ∷ [])) ≡ fate.Bypassed

-- Steps that did not run meet no test.
pub record MeetsNoTest : Type 0 where
  pub bypassed_step : fate_after false [] (not_run ++ ended 3 (Code 12) ∷ []) (step_with Unsaid (test_of 0 Le (Some 1) ∷ [])) ≡ fate.Run
  pub bypassed_step_before_one_ran : fate_after false [] not_run (step_with Unsaid (test_of 0 Le (Some 1) ∷ [])) ≡ fate.Run
  pub flushed_step : fate_after false [] (not_run ++ ended 3 (Code 12) ∷ []) (step_with Unsaid (test_of 0 Le (Some 2) ∷ [])) ≡ fate.Run
  pub flushed_step_before_one_ran : fate_after false [] not_run (step_with Unsaid (test_of 0 Le (Some 2) ∷ [])) ≡ fate.Run
  pub step_that_ran : fate_after false [] (not_run ++ ended 3 (Code 12) ∷ []) (step_with Unsaid (test_of 0 Le (Some 3) ∷ [])) ≡ fate.Bypassed
  pub step_that_ran_before_one_ran : fate_after false [] not_run (step_with Unsaid (test_of 0 Le (Some 3) ∷ [])) ≡ fate.Run
  pub no_such_step : fate_after false [] (not_run ++ ended 3 (Code 12) ∷ []) (step_with Unsaid (test_of 0 Le (Some 4) ∷ [])) ≡ fate.Run
  pub no_such_step_before_one_ran : fate_after false [] not_run (step_with Unsaid (test_of 0 Le (Some 4) ∷ [])) ≡ fate.Run
  pub any_step : fate_after false [] (not_run ++ ended 3 (Code 12) ∷ []) (step_with Unsaid (test_of 0 Le None ∷ [])) ≡ fate.Bypassed
  pub any_step_before_one_ran : fate_after false [] not_run (step_with Unsaid (test_of 0 Le None ∷ [])) ≡ fate.Run
