use Rattle.std.proofs.Common.{subst, sym}
use Rattle.queued_job.specs.Zapping.{IsOwner}
use Rattle.queued_job.proofs.Overwritten.{none_owns, owns}
use Rattle.queued_job.proofs.zapping.owner_of.Goals as goal

pub returns-in-Some-clause-some : goal.returns-in-Some-clause-some
returns-in-Some-clause-some g c =
    let q = g.Q.RecordStore.queue c.args.queue.now in
    subst (IsOwner q c.args.n) (sym c.owner.ensures)
    (owns c.shows_records.ensures q c.args.n c.in-Some.rec.now c.layout-layout.ensures.sound c.requires.from c.requires.to c.in-Some.ensures)
