use Rattle.std.proofs.Common.{◌≡◌, ◌≤◌, length}
use Rattle.std.specs.Prelude.{All}
use Rattle.cb_meaning.specs.Writable.{most_dds}
use Rattle.jcl_plan.specs.declared.plan.StepPlan.{StepPlan}
use Rattle.cb_chain.specs.Taking.{StepsFrom, steps_needed}
use Rattle.cb_chain.specs.Written.{HoldsSteps}
use Rattle.cb_chain.proofs.SoFar.{SoFar}
use Rattle.cb_chain.proofs.steps.write_steps.Given as goal

abbrev pub invariant-loop-step : goal.invariant-loop-step
invariant-loop-step g l =
    record {
      so : SoFar {X = StepPlan} l.job steps_needed (StepsFrom l.layout l.job) l.steps l.rest (g.S.RecordStore.queue l.fn.store)
          (g.S.RecordStore.queue l.store) l.first l.here;
      few : All (λ (step : StepPlan). length step.dds ≤ most_dds) l.rest;
      days : HoldsSteps l.layout l.rest;
      room : g.S.RecordStore.lacking l.store ≡ g.S.RecordStore.lacking l.fn.store;
    }

abbrev pub decreases-loop-step : goal.decreases-loop-step
decreases-loop-step g l = length l.rest
