use Rattle.std.proofs.Common.{◌≡◌, ◌+◌, take}
use Rattle.std.specs.List.{sum_by}
use Rattle.jcl_plan.specs.declared.plan.DdPlan.{DdPlan}
use Rattle.cb_meaning.specs.Needs.{records_below}
use Rattle.cb_chain.proofs.room.after_dds.Given as goal

abbrev pub invariant-loop-dd : goal.invariant-loop-dd
invariant-loop-dd l = l.left + sum_by (λ (dd : DdPlan). 1 + records_below dd.kind) (take l.dd-index l.dds) ≡ l.free
