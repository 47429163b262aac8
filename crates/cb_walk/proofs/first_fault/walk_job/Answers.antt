use Rattle.std.proofs.Common.{[], ◌+◌, ap, subst, sym}
use Rattle.cb_walk.specs.Jobs.{Tells}
use Rattle.cb_walk.proofs.WholeJob.{bad_job, stepless_job, unmet_job, walked_job}
use Rattle.cb_walk.proofs.first_fault.walk_job.Goals as goal

pub returns-in-Err : goal.returns-in-Err
returns-in-Err g c =
    unmet_job (g.S.RecordStore.queue c.args.store.now) c.args.units c.args.job c.args.n c.in-Err.fault (c.in-Err.ensures [] c.requires.none)

pub returns-in-Some : goal.returns-in-Some
returns-in-Some g c =
    bad_job (g.S.RecordStore.queue c.args.store.now) c.layout-layout.result.now c.layout-layout.ensures.value c.args.units c.args.job c.args.n
    c.arrive.new.marks c.arrive.new.own (c.in-Ok.ensures [] c.requires.none) c.in-Some.fault c.in-Some.ensures

pub returns-then-first-eq0 : goal.returns-then-first-eq0
returns-then-first-eq0 g c =
    stepless_job (g.S.RecordStore.queue c.args.store.now) c.layout-layout.result.now c.layout-layout.ensures.value c.args.units c.args.job c.args.n
    c.arrive.new.marks c.arrive.new.own (c.in-Ok.ensures [] c.requires.none) c.in-None.ensures c.number-first.result c.number-first.ensures.value
    c.if-first-eq0.true

pub returns : goal.returns
returns g c =
    let q = g.S.RecordStore.queue c.args.store.now in
    subst (Tells q c.args.units c.args.job c.args.n) (sym c.err.ensures.value)
    (walked_job q c.layout-layout.result.now c.layout-layout.ensures.value c.args.units c.args.job c.args.n
    c.arrive.new.marks c.arrive.new.own (c.in-Ok.ensures [] c.requires.none) c.in-None.ensures c.number-first.result c.number-first.ensures.value
    c.if-first-eq0.false (c.from-most.result + 1) c.number-stated.result (ap (λ x. x + 1) c.from-most.ensures) c.number-stated.ensures.value
    c.walk_steps.new.marks c.in_ok-told.told c.in_ok-told.ensures)
