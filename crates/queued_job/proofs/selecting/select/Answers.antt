use Rattle.std.proofs.Common.{get_or, refl, subst, sym, take}
use Rattle.std.proofs.lemmas.List.{take_all}
use Rattle.std.proofs.lemmas.List.Elements.{All-more, All-same}
use Rattle.queue_core.specs.Queues.{HasNoneOf, IsFirstOf}
use Rattle.queued_job.proofs.Selected.{none_selected, one_selected}
use Rattle.queued_job.proofs.selecting.select.Goals as goal

pub returns-in-Some-clause-first : goal.returns-in-Some-clause-first
returns-in-Some-clause-first g c =
    let queue = (g.Q.RecordStore.queue c.args.queue.now).waiting in
    let q = c.in-Some.queued in
    subst (λ class. IsFirstOf queue class q) (sym c.in-Some.ensures.some.of_class) c.in-Some.ensures.some

pub returns-in-Some-clause-value : goal.returns-in-Some-clause-value
returns-in-Some-clause-value g c =
    let queue = (g.Q.RecordStore.queue c.args.queue.now).waiting in
    one_selected queue c.args.classes.now c.loop-class.class-index (get_or c.args.classes.now c.loop-class.class-index 0) c.in-Some.queued c.loop-class-test.true refl c.loop-class.invariant
    c.in-Some.ensures.some

pub loop-class-preserved : goal.loop-class-preserved
loop-class-preserved g c =
    let queue = (g.Q.RecordStore.queue c.args.queue.now).waiting in
    All-more (HasNoneOf queue) c.args.classes.now c.loop-class.class-index 0 c.loop-class-test.true c.loop-class.invariant c.in_default.ensures.none

pub returns-clause-value : goal.returns-clause-value
returns-clause-value g c = none_selected (g.Q.RecordStore.queue c.args.queue.now).waiting c.args.classes.now
    (All-same (HasNoneOf (g.Q.RecordStore.queue c.args.queue.now).waiting) c.args.classes.now (take c.loop-class.class-index c.args.classes.now)
    (sym (take_all c.loop-class.class-index c.args.classes.now c.loop-class-test.false)) c.loop-class.invariant)
