use Rattle.std.proofs.Common.{◌≡◌, ◌++◌, All}
use Rattle.cb_meaning.specs.Readings.{steps_read}
use Rattle.cb_queue.specs.RecordQueues.{shown}
use Rattle.cb_read.specs.Chains.{steps_from}
use Rattle.cb_read.specs.Kinds.{AreSteps}
use Rattle.cb_read.specs.Ranges.{IsStepInRange}
use Rattle.cb_read.proofs.steps.steps_read.Given as goal

-- what was read, and then what is read from here on, is the whole
abbrev pub invariant-loop-left : goal.invariant-loop-left
invariant-loop-left g l =
    let q = g.S.RecordStore.queue l.store in
    record {
      kinds : AreSteps q l.left l.n;
      range : All IsStepInRange (steps_read q.layout (shown q) l.left l.n);
      whole : steps_from q l.first ≡ l.steps ++ steps_read q.layout (shown q) l.left l.n;
    }

abbrev pub decreases-loop-left : goal.decreases-loop-left
decreases-loop-left g l = l.left
