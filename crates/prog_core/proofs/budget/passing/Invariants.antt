use Rattle.std.proofs.Common.{◌≡◌, ◌≤◌, cond, take}
use Rattle.std.specs.Prelude.{sum_by}
use Rattle.jcl_meaning.specs.Plans.{passes}
use Rattle.prog_core.proofs.budget.passing.Given as goal

abbrev pub invariant-loop-dd : goal.invariant-loop-dd
invariant-loop-dd l = (l.number ≡ sum_by (λ d. cond (passes d.kind) 1 0) (take l.dd-index l.step.dds)) × (l.number ≤ l.dd-index)
