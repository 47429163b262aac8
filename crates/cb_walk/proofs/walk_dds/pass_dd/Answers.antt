use Rattle.cb_walk.proofs.PassingDds.{bad_dd, many_dds, passed_dd, under_dd, unmet_dd}
use Rattle.cb_walk.proofs.walk_dds.pass_dd.Goals as goal

pub returns-in-Err : goal.returns-in-Err
returns-in-Err g c =
    unmet_dd (g.S.RecordStore.queue c.args.store.now) c.args.units c.args.job c.args.left c.args.steps.now c.args.dds.now c.args.n c.in-Err.fault
    c.args.marks.now c.requires.left c.requires.some c.in-Err.ensures

pub returns-then-dds-eq-MOST_DDS : goal.returns-then-dds-eq-MOST_DDS
returns-then-dds-eq-MOST_DDS g c =
    many_dds (g.S.RecordStore.queue c.args.store.now) c.args.units c.args.job c.args.left c.args.steps.now c.args.dds.now c.args.n c.args.marks.now
    c.arrive.new.marks c.arrive.new.own c.requires.left c.requires.some c.in-Ok.ensures c.if-dds-eq-MOST_DDS.true

pub returns-in-Some : goal.returns-in-Some
returns-in-Some g c =
    bad_dd (g.S.RecordStore.queue c.args.store.now) c.layout-layout.result.now c.layout-layout.ensures.value c.args.units c.args.job c.args.left
    c.args.steps.now c.args.dds.now c.args.n c.in-Some.fault c.args.marks.now c.arrive.new.marks c.arrive.new.own c.requires.left c.requires.some
    c.in-Ok.ensures c.if-dds-eq-MOST_DDS.false c.in-Some.ensures

pub returns-in-Err-walk_below : goal.returns-in-Err-walk_below
returns-in-Err-walk_below g c =
    under_dd (g.S.RecordStore.queue c.args.store.now) c.layout-layout.result.now c.layout-layout.ensures.value c.args.units c.args.job c.args.left
    c.args.steps.now c.args.dds.now c.args.n c.in-Err-walk_below.fault c.args.marks.now c.arrive.new.marks c.arrive.new.own c.requires.left c.requires.some
    c.in-Ok.ensures c.if-dds-eq-MOST_DDS.false c.in-None.ensures c.in-Err-walk_below.ensures

pub returns-in-Ok-walk_below : goal.returns-in-Ok-walk_below
returns-in-Ok-walk_below g c =
    passed_dd (g.S.RecordStore.queue c.args.store.now) c.layout-layout.result.now c.layout-layout.ensures.value c.args.units c.args.job c.args.left
    c.args.steps.now c.args.dds.now c.args.n c.args.marks.now c.arrive.new.marks c.walk_below.new.marks c.arrive.new.own c.is_set.result c.number.result
    c.requires.left c.requires.some c.in-Ok.ensures c.if-dds-eq-MOST_DDS.false c.in-None.ensures c.in-Ok-walk_below.ensures c.is_set.ensures
    c.number.ensures.value
