-- The steps, DDs, tests and cards of a job by their numbers, from 0.
use Rattle.std.specs.Prelude.{ℕ, ◌-◌, ◌<◌, ◌≤◌, List, [], length, None, slice_index_or}
use Rattle.jcl_plan.specs.declared.plan.AfterAbend.TheVariants.{Unsaid}
use Rattle.jcl_plan.specs.declared.plan.DdKind.TheVariants.{Dummy}
use Rattle.jcl_plan.specs.declared.plan.DdPlan.{DdPlan}
use Rattle.jcl_plan.specs.declared.plan.Operator.TheVariants.{Gt}
use Rattle.jcl_plan.specs.declared.plan.StepPlan.{StepPlan}
use Rattle.jcl_plan.specs.declared.plan.Test.{Test}

-- where there is none
abbrev pub no_step : StepPlan
no_step = record { name = None; procedure_step = None; program = []; after_abend = Unsaid; tests = record { items = [] }; dds = [] }

abbrev pub no_dd : DdPlan
no_dd = record { name = None; kind = Dummy }

abbrev pub no_test : Test
no_test = record { code = 0; operator = Gt; step = None }

abbrev pub step_at : List StepPlan → ℕ → StepPlan
step_at steps k = slice_index_or steps k no_step

abbrev pub dd_at : List DdPlan → ℕ → DdPlan
dd_at dds d = slice_index_or dds d no_dd

abbrev pub test_at : List Test → ℕ → Test
test_at tests i = slice_index_or tests i no_test

abbrev pub card_at : List (List ℕ) → ℕ → List ℕ
card_at cards i = slice_index_or cards i []

-- a step and a DD of these numbers, which count from 1
abbrev pub IsStep : List StepPlan → ℕ → Type 0
IsStep steps n = (0 < n) × (n ≤ length steps)

abbrev pub IsDd : List StepPlan → ℕ → ℕ → Type 0
IsDd steps n dd = (0 < n) × (n ≤ length steps) × (0 < dd) × (dd ≤ length (step_at steps (n - 1)).dds)
