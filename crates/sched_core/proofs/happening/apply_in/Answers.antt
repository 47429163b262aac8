use Rattle.std.proofs.Common.{◌<◌, ◌-◌, ◌+◌, ◌≡◌, arith, ap, subst, refl}
use Rattle.jcl_job.specs.Jobs.{job_of}
use Rattle.machine_meaning.specs.declared.machine.TheConstants.{MOST_EVENTS}
use Rattle.std.specs.Prelude.{Err}
use Rattle.world_meaning.specs.Transitions.{Transition}
use Rattle.world_meaning.specs.Worlds.{World, counted}
use Rattle.sched_core.specs.Events.{Answers, DoesSo, RefusesFirst}
use Rattle.sched_core.specs.Machines.{config_in, world_in}
use Rattle.sched_core.specs.Systems.{Machine, meant_by}
use Rattle.sched_core.proofs.Counting.{kept_at}
use Rattle.sched_core.proofs.Happened.{done, kept_before, kept_done, kept_refused, refuses, refuses_first}
use Rattle.sched_core.proofs.Machined.{counted_alone, counted_back}
use Rattle.sched_core.proofs.Followed.{same_extents}
use Rattle.sched_core.proofs.happening.apply_in.Goals as goal

pub happen-requires-clause-kept : goal.happen-requires-clause-kept
happen-requires-clause-kept g c =
    let queue_of = g.Q.RecordStore.queue in
    let s = c.args.state.now in
    let few : s.events < MOST_EVENTS = c.if-state-ge-MOST_EVENTS.false in
    kept_at queue_of (config_in queue_of c.args.profile.now s) s (s.events + 1) (omega (arith, few)) c.requires.kept

pub returns-in-Ok-clause-answer : goal.returns-in-Ok-clause-answer
returns-in-Ok-clause-answer g c =
    let queue_of = g.Q.RecordStore.queue in
    let s = c.args.state.now in
    let config = config_in queue_of c.args.profile.now s in
    done s.parts.store (job_of c.args.units.now c.args.library.now) (meant_by c.args.event.now) (world_in queue_of config s)
    (world_in queue_of config c.happen.new.state) c.if-state-ge-MOST_EVENTS.false c.in-Ok.lines c.in-Ok.ensures.done.answer

pub returns-in-Ok-clause-refusal : goal.returns-in-Ok-clause-refusal
returns-in-Ok-clause-refusal g c =
    let queue_of = g.Q.RecordStore.queue in
    let s = c.args.state.now in
    let first = world_in queue_of (config_in queue_of c.args.profile.now s) s in
    refuses_first (job_of c.args.units.now c.args.library.now) (meant_by c.args.event.now) first _ c.if-state-ge-MOST_EVENTS.false c.in-Ok.ensures.refusal

pub returns-in-Ok-clause-kept : goal.returns-in-Ok-clause-kept
returns-in-Ok-clause-kept g c =
    let queue_of = g.Q.RecordStore.queue in
    let s = c.args.state.now in
    kept_done queue_of (config_in queue_of c.args.profile.now s) s c.requires.kept (job_of c.args.units.now c.args.library.now) (meant_by c.args.event.now)
    c.if-state-ge-MOST_EVENTS.false c.soundness_is_kept.ensures c.supplies_are_kept.ensures c.happen.new.state c.in-Ok.ensures.done.fit c.in-Ok.lines c.in-Ok.ensures.done.answer

pub returns-in-Err-Refused-clause-answer : goal.returns-in-Err-Refused-clause-answer
returns-in-Err-Refused-clause-answer g c =
    let queue_of = g.Q.RecordStore.queue in
    let s = c.args.state.now in
    let config = config_in queue_of c.args.profile.now s in
    let job = job_of c.args.units.now c.args.library.now in
    let e = meant_by c.args.event.now in
    let first = world_in queue_of config s in
    let after = world_in queue_of config c.happen.new.state in
    let answered = subst (λ f. Answers (Err f) (counted first) after (DoesSo s.parts.store job (counted first) e)) c.in-Err-Refused.field-0-is c.in-Err-Refused.ensures.done.answer in
    (refuses s.parts.store job e first after c.if-state-ge-MOST_EVENTS.false c.in-Err-Refused.cause answered).0

pub returns-in-Err-Refused-clause-refusal : goal.returns-in-Err-Refused-clause-refusal
returns-in-Err-Refused-clause-refusal g c =
    let queue_of = g.Q.RecordStore.queue in
    let s = c.args.state.now in
    let config = config_in queue_of c.args.profile.now s in
    let job = job_of c.args.units.now c.args.library.now in
    let e = meant_by c.args.event.now in
    let first = world_in queue_of config s in
    subst (λ f. RefusesFirst (Err f) (Transition job first e)) c.in-Err-Refused.field-0-is
    (refuses_first job e first (Err c.in-Err-Refused.field-0) c.if-state-ge-MOST_EVENTS.false c.in-Err-Refused.ensures.refusal)

pub returns-in-Err-Refused-clause-kept : goal.returns-in-Err-Refused-clause-kept
returns-in-Err-Refused-clause-kept g c =
    let queue_of = g.Q.RecordStore.queue in
    let s = c.args.state.now in
    let config = config_in queue_of c.args.profile.now s in
    let job = job_of c.args.units.now c.args.library.now in
    let e = meant_by c.args.event.now in
    let first = world_in queue_of config s in
    let after = world_in queue_of config c.happen.new.state in
    let answered = subst (λ f. Answers (Err f) (counted first) after (DoesSo s.parts.store job (counted first) e)) c.in-Err-Refused.field-0-is c.in-Err-Refused.ensures.done.answer in
    kept_refused queue_of config s c.requires.kept job e c.if-state-ge-MOST_EVENTS.false c.soundness_is_kept.ensures c.supplies_are_kept.ensures c.happen.new.state
    c.in-Err-Refused.ensures.done.fit c.in-Err-Refused.cause answered

pub returns-in-Err-Memory-clause-refusal : goal.returns-in-Err-Memory-clause-refusal
returns-in-Err-Memory-clause-refusal g c =
    let queue_of = g.Q.RecordStore.queue in
    let s = c.args.state.now in
    let config = config_in queue_of c.args.profile.now s in
    let job = job_of c.args.units.now c.args.library.now in
    let e = meant_by c.args.event.now in
    let first = world_in queue_of config s in
    subst (λ f. RefusesFirst (Err f) (Transition job first e)) c.in-Err-Memory.field-0-is
    (refuses_first job e first (Err c.in-Err-Memory.field-0) c.if-state-ge-MOST_EVENTS.false c.in-Err-Memory.ensures.refusal)

pub returns-in-Err-Memory-clause-kept : goal.returns-in-Err-Memory-clause-kept
returns-in-Err-Memory-clause-kept g c =
    let queue_of = g.Q.RecordStore.queue in
    let s = c.args.state.now in
    let config = config_in queue_of c.args.profile.now s in
    let job = job_of c.args.units.now c.args.library.now in
    let e = meant_by c.args.event.now in
    let first = world_in queue_of config s in
    let after = world_in queue_of config c.happen.new.state in
    let answered = subst (λ f. Answers (Err f) (counted first) after (DoesSo s.parts.store job (counted first) e)) c.in-Err-Memory.field-0-is c.in-Err-Memory.ensures.done.answer in
    let same : c.happen.new.state.events ≡ s.events + 1 = ap (λ (w : World). w.events) answered in
    kept_before queue_of config s c.requires.kept job e c.if-state-ge-MOST_EVENTS.false c.soundness_is_kept.ensures c.supplies_are_kept.ensures c.happen.new.state
    c.in-Err-Memory.ensures.done.fit (c.happen.new.state.events - 1) (omega (arith, same)) answered

pub returns-in-Err-Refused-clause-unless_refused : goal.returns-in-Err-Refused-clause-unless_refused
returns-in-Err-Refused-clause-unless_refused g c =
    let s = c.args.state.now in
    let names = c.args.units.now in
    let library = c.args.library.now in
    counted_alone g.Q.RecordStore.queue c.args.profile.now names library s c.happen.new.state (s.events + 1) (c.in-Err-Refused.ensures.done.same names library)

pub returns-in-Err-Memory-clause-memory : goal.returns-in-Err-Memory-clause-memory
returns-in-Err-Memory-clause-memory g c =
    let s = c.args.state.now in
    let names = c.args.units.now in
    let library = c.args.library.now in
    let same = c.in-Err-Memory.ensures.done.same names library in
    let counted : c.happen.new.state.events ≡ s.events + 1 = ap (λ (m : Machine). m.events) same in
    λ _. counted_back g.Q.RecordStore.queue c.args.profile.now names library s c.happen.new.state (s.events + 1) same
    (c.happen.new.state.events - 1) (omega (arith, counted))

pub returns-in-Err-Refused-clause-extents : goal.returns-in-Err-Refused-clause-extents
returns-in-Err-Refused-clause-extents g c =
    same_extents c.args.state.now.parts.store c.happen.new.state.parts.store
    (ap (λ (m : Machine). m.parts.store) (c.in-Err-Refused.ensures.done.same c.args.units.now c.args.library.now))

pub returns-in-Err-Memory-clause-extents : goal.returns-in-Err-Memory-clause-extents
returns-in-Err-Memory-clause-extents g c =
    same_extents c.args.state.now.parts.store c.happen.new.state.parts.store
    (ap (λ (m : Machine). m.parts.store) (c.in-Err-Memory.ensures.done.same c.args.units.now c.args.library.now))

pub returns-then-state-ge-MOST_EVENTS-clause-extents : goal.returns-then-state-ge-MOST_EVENTS-clause-extents
returns-then-state-ge-MOST_EVENTS-clause-extents g c = same_extents c.args.state.now.parts.store c.args.state.now.parts.store refl
