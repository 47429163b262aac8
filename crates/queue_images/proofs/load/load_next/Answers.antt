use Rattle.std.proofs.Common.{subst, sym}
use Rattle.cb_chain.specs.Written.{HoldsJobs}
use Rattle.queue_images.proofs.Loaded.{loaded, stands}
use Rattle.queue_images.proofs.load.load_next.Goals as goal

pub take_first-n-requires-clause-holds : goal.take_first-n-requires-clause-holds
take_first-n-requires-clause-holds g c = subst HoldsJobs (sym c.requires.layout) c.the_layouts_hold_jobs.ensures.first

pub returns-clause-loads : goal.returns-clause-loads
returns-clause-loads g c =
    loaded c.args.bytes.now c.owned_record-rec.result c.owner.result c.take_first-n.result (g.S.RecordStore.queue c.args.store.now)
    (g.S.RecordStore.queue c.take_first-n.new.store) (g.S.RecordStore.queue c.put.new.self)
    (stands c.args.bytes.now c.owned_record-rec.result c.requires.size c.owned_record-rec.ensures.owner c.owned_record-rec.ensures.others
    c.owned_record-rec.ensures.owned)
    c.requires.layout c.take_first-n.ensures.ready.size c.take_first-n.ensures.takes c.put.ensures.value
