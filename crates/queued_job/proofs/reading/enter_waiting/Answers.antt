use Rattle.queued_job.proofs.Entered.{queued_well}
use Rattle.queued_job.proofs.reading.enter_waiting.Goals as goal

pub enter-requires-clause-queued : goal.enter-requires-clause-queued
enter-requires-clause-queued g c =
    let q = g.Q.RecordStore.queue c.args.queue.now in
    queued_well c.args.job c.args.plan.now q c.args.first c.requires.writable.0 q.layout.most_steps c.requires.owner c.requires.ready c.requires.taken
    c.requires.writable.1
