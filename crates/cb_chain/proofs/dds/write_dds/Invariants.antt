use Rattle.std.proofs.Common.{◌≡◌, length}
use Rattle.jcl_plan.specs.declared.plan.DdPlan.{DdPlan}
use Rattle.cb_chain.specs.Taking.{DdsFrom, dds_needed}
use Rattle.cb_chain.specs.Written.{HoldsDds}
use Rattle.cb_chain.proofs.SoFar.{SoFar}
use Rattle.cb_chain.proofs.dds.write_dds.Given as goal

abbrev pub invariant-loop-dd : goal.invariant-loop-dd
invariant-loop-dd g l =
    record {
      so : SoFar {X = DdPlan} l.job dds_needed (DdsFrom l.layout l.job) l.dds l.rest (g.S.RecordStore.queue l.fn.store) (g.S.RecordStore.queue l.store) l.first
          l.here;
      days : HoldsDds l.layout l.rest;
      room : g.S.RecordStore.lacking l.store ≡ g.S.RecordStore.lacking l.fn.store;
    }

abbrev pub decreases-loop-dd : goal.decreases-loop-dd
decreases-loop-dd g l = length l.rest
