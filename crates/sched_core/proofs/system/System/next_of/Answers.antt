use Rattle.std.proofs.Common.{None, Some, subst}
use Rattle.sched_core.specs.Systems.{machine_in, world_of}
use Rattle.sched_core.specs.Views.{IsNext}
use Rattle.sched_core.proofs.Nexts.{next_none, next_some}
use Rattle.sched_core.proofs.system.System.next_of.Goals as goal

pub returns-in-None : goal.returns-in-None
returns-in-None g c =
    let x = c.self.inside in
    subst (λ m. IsNext (world_of m).waiting c.args.class None) c.self.view_is
    (next_none (machine_in g.Q.RecordStore.queue x.profile x.units.now x.library.now x.state) c.args.class c.waiting_are_listed.ensures.queued
    c.self.invariant.kept.fit.listed c.in-None.ensures.value)

pub returns-in-Some : goal.returns-in-Some
returns-in-Some g c =
    let x = c.self.inside in
    subst (λ m. IsNext (world_of m).waiting c.args.class (Some c.in-Some.queued.job)) c.self.view_is
    (next_some (machine_in g.Q.RecordStore.queue x.profile x.units.now x.library.now x.state) c.args.class c.waiting_are_listed.ensures.queued
    c.self.invariant.kept.fit.listed c.in-Some.queued c.in-Some.ensures.value)
