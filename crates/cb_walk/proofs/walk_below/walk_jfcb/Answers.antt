use Rattle.cb_walk.proofs.UnderDds.{bad_set, good_set, unmet_set}
use Rattle.cb_walk.proofs.walk_below.walk_jfcb.Goals as goal

pub returns-in-Err : goal.returns-in-Err
returns-in-Err g c =
    unmet_set (g.S.RecordStore.queue c.args.store.now) c.args.job c.args.steps.now c.args.dds.now c.args.siot.now c.args.n c.in-Err.fault c.args.marks.now
    c.in-Err.ensures

pub returns-in-Some : goal.returns-in-Some
returns-in-Some g c =
    bad_set (g.S.RecordStore.queue c.args.store.now) c.layout-layout.result.now c.layout-layout.ensures.value c.args.job c.args.steps.now c.args.dds.now
    c.args.siot.now c.args.n c.in-Some.fault c.args.marks.now c.arrive.new.marks c.arrive.new.own c.in-Ok.ensures c.in-Some.ensures

pub returns-in-None : goal.returns-in-None
returns-in-None g c =
    good_set (g.S.RecordStore.queue c.args.store.now) c.layout-layout.result.now c.layout-layout.ensures.value c.args.job c.args.steps.now c.args.dds.now
    c.args.siot.now c.args.n c.args.marks.now c.arrive.new.marks c.arrive.new.own c.in-Ok.ensures c.in-None.ensures
