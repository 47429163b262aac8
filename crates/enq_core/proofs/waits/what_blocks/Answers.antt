use Rattle.enq_core.proofs.Alone.{blocked_at_start}
use Rattle.enq_core.proofs.waits.what_blocks.Goals as goal

pub returns-in-Some-block_at_first-clause-some : goal.returns-in-Some-block_at_first-clause-some
returns-in-Some-block_at_first-clause-some c =
    blocked_at_start c.args.holds.now c.args.wants.now 1 c.in-Some-block_at_first.blocked c.in-Some-block_at_first.ensures.some
