use Rattle.std.proofs.Common.{◌≡◌, Err, subst}
use Rattle.shared_core.specs.LaidOut.{VolumesAreLaidOut}
use Rattle.world_meaning.specs.Transitions.{Transition}
use Rattle.sched_core.specs.Events.{RefusesFirst}
use Rattle.sched_core.specs.Systems.{Applies, IsNext, KeepsIfRefused, Steps, denoting, machine_in, meant_by, world_of}
use Rattle.sched_core.specs.declared.fault.ApplyFault.TheVariants.{Memory}
use Rattle.sched_core.proofs.Machined.{applied, next_machine}
use Rattle.sched_core.proofs.system.System.apply.Goals as goal

pub returns-clause-answer : goal.returns-clause-answer
returns-clause-answer g c =
    let queue_of = g.Q.RecordStore.queue in
    let x = c.self.inside in
    let new = c.apply_in-answer.new.state in
    subst (λ m. Applies c.apply_in-answer.result (world_of m) (world_of (machine_in queue_of x.profile x.units.now x.library.now new)) (Steps m c.args.event.now))
    c.self.view_is
    (applied queue_of x.profile x.units.now x.library.now x.state new c.apply_in-answer.ensures.kept.fit.good.layout c.apply_in-answer.result
    (Steps (machine_in queue_of x.profile x.units.now x.library.now x.state) c.args.event.now)
    c.apply_in-answer.ensures.answer)

pub returns-clause-refusal : goal.returns-clause-refusal
returns-clause-refusal g c =
    let e = meant_by c.args.event.now in
    subst (λ m. RefusesFirst c.apply_in-answer.result (Transition (denoting m) (world_of m) e)) c.self.view_is c.apply_in-answer.ensures.refusal

pub returns-clause-unless_refused : goal.returns-clause-unless_refused
returns-clause-unless_refused g c =
    let x = c.self.inside in
    subst (λ m. KeepsIfRefused c.apply_in-answer.result m (machine_in g.Q.RecordStore.queue x.profile x.units.now x.library.now c.apply_in-answer.new.state)) c.self.view_is
    c.apply_in-answer.ensures.unless_refused

pub returns-clause-memory : goal.returns-clause-memory
returns-clause-memory g c =
    let x = c.self.inside in
    subst (λ m. c.apply_in-answer.result ≡ Err Memory → machine_in g.Q.RecordStore.queue x.profile x.units.now x.library.now c.apply_in-answer.new.state ≡ m) c.self.view_is
    c.apply_in-answer.ensures.memory

pub returns-clause-next : goal.returns-clause-next
returns-clause-next g c =
    let queue_of = g.Q.RecordStore.queue in
    let x = c.self.inside in
    let new = c.apply_in-answer.new.state in
    subst (λ m. IsNext m (machine_in queue_of x.profile x.units.now x.library.now new)) c.self.view_is
    (next_machine queue_of x.profile x.units.now x.library.now x.state new c.apply_in-answer.ensures.kept.fit.good.layout c.apply_in-answer.ensures.extents
    c.apply_in-answer.ensures.kept (subst VolumesAreLaidOut c.as_slice.ensures c.volumes_are_laid_out.ensures) c.are_records.ensures)
