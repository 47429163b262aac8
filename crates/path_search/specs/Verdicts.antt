-- What the answer of an analysis says.
use Rattle.std.specs.Prelude.{ℕ, List}
use Rattle.jcl_plan.specs.declared.plan.JobPlan.{JobPlan}
use Rattle.jcl_meaning.specs.States.{Fixed}
use Rattle.jcl_meaning.specs.Stores.{Store}
use Rattle.path_meaning.specs.Verdicts.{IsEarliest, IsFirstWithMore, IsFree}
use Rattle.path_search.specs.declared.verdict.Verdict.{Verdict}
use Rattle.path_search.specs.declared.verdict.Verdict.TheVariants.{Risk, Safe, TooMany}

abbrev pub IsVerdict : Fixed → JobPlan → Store → ℕ → Verdict → Type 0
IsVerdict fixed plan store limit (Safe places) = IsFree fixed plan store limit places.items
IsVerdict fixed plan store limit (Risk report) = IsEarliest fixed plan store limit report.fault report.step report.dd report.path.items
IsVerdict fixed plan store limit (TooMany step) = IsFirstWithMore fixed plan store limit step
