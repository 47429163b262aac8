use Rattle.std.proofs.Common.{◌∙◌, [], ap, subst, sym, ◌+◌}
use Rattle.cb_walk.specs.Dds.{EndsDds, dds_from}
use Rattle.cb_walk.proofs.PassingSteps.{bad_step, many_steps, passed_step, under_step, unmet_step}
use Rattle.cb_walk.proofs.walk_steps.pass_step.Goals as goal

pub returns-in-Err : goal.returns-in-Err
returns-in-Err g c =
    unmet_step (g.S.RecordStore.queue c.args.store.now) c.args.units c.args.job c.args.steps.now c.args.n c.in-Err.fault c.args.marks.now c.requires.some
    c.in-Err.ensures

pub returns-then-steps-from : goal.returns-then-steps-from
returns-then-steps-from g c =
    many_steps (g.S.RecordStore.queue c.args.store.now) c.layout-layout.result.now c.layout-layout.ensures.value c.args.units c.args.job c.args.steps.now
    c.args.n c.requires.some c.args.marks.now c.arrive.new.marks c.arrive.new.own c.in-Ok.ensures (c.if-steps-from.true ∙ c.from.ensures)

pub returns-in-Some : goal.returns-in-Some
returns-in-Some g c =
    bad_step (g.S.RecordStore.queue c.args.store.now) c.layout-layout.result.now c.layout-layout.ensures.value c.args.units c.args.job c.args.steps.now
    c.args.n c.requires.some c.args.marks.now c.arrive.new.marks c.arrive.new.own c.in-Ok.ensures (λ e. c.if-steps-from.false (e ∙ sym c.from.ensures))
    c.in-Some.fault c.in-Some.ensures

pub returns-in-Ok-2 : goal.returns-in-Ok-2
returns-in-Ok-2 g c =
    let q = g.S.RecordStore.queue c.args.store.now in
    let walk = dds_from q c.args.units c.args.job (c.from-most.result + 1) c.number-stated.result c.args.steps.now [] c.number-first.result in
    passed_step q c.layout-layout.result.now c.layout-layout.ensures.value c.args.units c.args.job c.args.steps.now
    c.args.n c.requires.some c.args.marks.now c.arrive.new.marks c.arrive.new.own c.in-Ok.ensures (λ e. c.if-steps-from.false (e ∙ sym c.from.ensures))
    c.in-None.ensures (c.from-most.result + 1) c.number-stated.result c.number-first.result (ap (λ x. x + 1) c.from-most.ensures)
    c.number-stated.ensures.value c.number-first.ensures.value c.walk_dds.new.marks c.in-Ok-2.dds c.number.result
    (subst (EndsDds c.arrive.new.marks c.walk_dds.new.marks walk) c.in-Ok-2.is c.in_ok-dds.ensures) c.number.ensures.value c.requires.few

pub returns-in-Err-2 : goal.returns-in-Err-2
returns-in-Err-2 g c =
    let q = g.S.RecordStore.queue c.args.store.now in
    let walk = dds_from q c.args.units c.args.job (c.from-most.result + 1) c.number-stated.result c.args.steps.now [] c.number-first.result in
    under_step q c.layout-layout.result.now c.layout-layout.ensures.value c.args.units c.args.job c.args.steps.now
    c.args.n c.requires.some c.args.marks.now c.arrive.new.marks c.arrive.new.own c.in-Ok.ensures (λ e. c.if-steps-from.false (e ∙ sym c.from.ensures))
    c.in-None.ensures (c.from-most.result + 1) c.number-stated.result c.number-first.result (ap (λ x. x + 1) c.from-most.ensures)
    c.number-stated.ensures.value c.number-first.ensures.value c.in-Err-2.fault
    (subst (EndsDds c.arrive.new.marks c.walk_dds.new.marks walk) c.in-Err-2.is c.in_ok-dds.ensures)
