use Rattle.std.proofs.Common.{◌≡◌, ◌++◌, All}
use Rattle.cb_meaning.specs.Readings.{dds_read}
use Rattle.cb_queue.specs.RecordQueues.{shown}
use Rattle.cb_read.specs.Chains.{dds_from}
use Rattle.cb_read.specs.Kinds.{AreDds}
use Rattle.cb_read.specs.Ranges.{IsDdInRange}
use Rattle.cb_read.proofs.dds.dds_read.Given as goal

-- what was read, and then what is read from here on, is the whole
abbrev pub invariant-loop-left : goal.invariant-loop-left
invariant-loop-left g l =
    let q = g.S.RecordStore.queue l.store in
    record {
      kinds : AreDds q l.left l.n;
      range : All IsDdInRange (dds_read q.layout (shown q) l.left l.n);
      whole : dds_from q l.first ≡ l.dds ++ dds_read q.layout (shown q) l.left l.n;
    }

abbrev pub decreases-loop-left : goal.decreases-loop-left
decreases-loop-left g l = l.left
