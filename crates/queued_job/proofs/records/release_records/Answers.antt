use Rattle.std.proofs.Common.{subst, sym}
use Rattle.queued_job.specs.Releases.{Releases}
use Rattle.queued_job.proofs.Owned.{released}
use Rattle.queued_job.proofs.records.release_records.Goals as goal

pub returns : goal.returns
returns g c =
    let old = g.Q.RecordStore.queue c.args.queue.now in
    subst (Releases c.args.job old) (sym c.give_back_all.ensures.value) (released c.shows_records.ensures old c.args.job c.layout-layout.ensures.sound c.requires.some)
