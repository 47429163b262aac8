use Rattle.std.proofs.Common.{◌≡◌, ◌++◌}
use Rattle.cb_meaning.specs.Readings.{cards_read}
use Rattle.cb_queue.specs.RecordQueues.{shown}
use Rattle.cb_read.specs.Chains.{cards_from}
use Rattle.cb_read.specs.Kinds.{AreCards}
use Rattle.cb_read.proofs.cards.cards_read.Given as goal

-- what was read, and then what is read from here on, is the whole
abbrev pub invariant-loop-left : goal.invariant-loop-left
invariant-loop-left g l =
    let q = g.S.RecordStore.queue l.store in
    record {
      kinds : AreCards q l.left l.n;
      whole : cards_from q l.first ≡ l.cards ++ cards_read q.layout (shown q) l.left l.n;
    }

abbrev pub decreases-loop-left : goal.decreases-loop-left
decreases-loop-left g l = l.left
