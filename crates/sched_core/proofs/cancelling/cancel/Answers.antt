use Rattle.std.proofs.Common.{◌≡◌, ◌≢◌, Ok, Err, false, ap, refl, subst, sym}
use Rattle.std.proofs.lemmas.List.Elements.{All-same}
use Rattle.enq_core.specs.Holds.{HoldsNone}
use Rattle.machine_core.specs.declared.parts.Parts.{Parts}
use Rattle.world_meaning.specs.Cancels as table
use Rattle.sched_core.specs.Cancelling.{has_job}
use Rattle.sched_core.specs.Machines.{config_in, world_in}
use Rattle.sched_core.specs.Systems.{parts_of}
use Rattle.sched_core.specs.declared.fault.ApplyFault.TheVariants.{Memory}
use Rattle.sched_core.proofs.Cancelled.{fit_waiting, leads_waiting, never_refused, no_job, some_waiting}
use Rattle.sched_core.proofs.Unchanged.{same_world, queue_alone, same_fit, same_machine}
use Rattle.sched_core.proofs.Waits.{found_waiting, nameless, numbered}
use Rattle.sched_core.proofs.Followed.{left_extents}
use Rattle.sched_core.proofs.cancelling.cancel.Goals as goal

pub cancel_waiting-requires-clause-some : goal.cancel_waiting-requires-clause-some
cancel_waiting-requires-clause-some g c =
    let s = c.args.state.now in
    let waits = found_waiting (g.Q.RecordStore.queue s.parts.queue).waiting s.backlog c.args.job c.requires.fit.listed (sym c.if-has.ensures) in
    subst (λ n. n ≢ 0) waits.2 (numbered g.Q.RecordStore.queue (config_in g.Q.RecordStore.queue c.args.profile.now s) s c.requires waits.0 waits.1)

pub cancel_waiting-requires-clause-unnamed : goal.cancel_waiting-requires-clause-unnamed
cancel_waiting-requires-clause-unnamed g c =
    let s = c.args.state.now in
    let waits = found_waiting (g.Q.RecordStore.queue s.parts.queue).waiting s.backlog c.args.job c.requires.fit.listed (sym c.if-has.ensures) in
    subst (HoldsNone s.parts.names) waits.2 (nameless g.Q.RecordStore.queue (config_in g.Q.RecordStore.queue c.args.profile.now s) s c.requires waits.0 waits.1)

pub returns-in-Ok-clause-done : goal.returns-in-Ok-clause-done
returns-in-Ok-clause-done g c = record {
  answer =
      let s = c.args.state.now in
      let waits = found_waiting (g.Q.RecordStore.queue s.parts.queue).waiting s.backlog c.args.job c.requires.fit.listed (sym c.if-has.ensures) in
      leads_waiting g.Q.RecordStore.queue (config_in g.Q.RecordStore.queue c.args.profile.now s) s c.requires c.args.job
      (record s { parts = c.cancel_waiting.new.parts; backlog = c.cancel_waiting.new.backlog }) c.in-Ok.lines refl refl
      waits.0 waits.1 waits.2 refl c.in-Ok.ensures.ok c.in-Ok.ensures.left;
  fit =
      let s = c.args.state.now in
      let waits = found_waiting (g.Q.RecordStore.queue s.parts.queue).waiting s.backlog c.args.job c.requires.fit.listed (sym c.if-has.ensures) in
      fit_waiting g.Q.RecordStore.queue (config_in g.Q.RecordStore.queue c.args.profile.now s) s c.requires c.args.job
      (record s { parts = c.cancel_waiting.new.parts; backlog = c.cancel_waiting.new.backlog }) c.in-Ok.lines refl refl
      waits.0 waits.1 waits.2 refl c.in-Ok.ensures.ok c.in-Ok.ensures.left;
  same = tt;
}

pub returns-in-Ok-clause-refusal : goal.returns-in-Ok-clause-refusal
returns-in-Ok-clause-refusal g c =
    let s = c.args.state.now in
    let waits = found_waiting (g.Q.RecordStore.queue s.parts.queue).waiting s.backlog c.args.job c.requires.fit.listed (sym c.if-has.ensures) in
    never_refused (world_in g.Q.RecordStore.queue (config_in g.Q.RecordStore.queue c.args.profile.now s) s) c.args.job (Ok c.in-Ok.lines)
    (some_waiting g.Q.RecordStore.queue (config_in g.Q.RecordStore.queue c.args.profile.now s) s c.requires c.args.job waits.0 waits.1 waits.2)

pub returns-in-Err-clause-refusal : goal.returns-in-Err-clause-refusal
returns-in-Err-clause-refusal g c =
    let s = c.args.state.now in
    let waits = found_waiting (g.Q.RecordStore.queue s.parts.queue).waiting s.backlog c.args.job c.requires.fit.listed (sym c.if-has.ensures) in
    never_refused (world_in g.Q.RecordStore.queue (config_in g.Q.RecordStore.queue c.args.profile.now s) s) c.args.job (Err Memory)
    (some_waiting g.Q.RecordStore.queue (config_in g.Q.RecordStore.queue c.args.profile.now s) s c.requires c.args.job waits.0 waits.1 waits.2)

pub returns-in-Err-clause-done : goal.returns-in-Err-clause-done
returns-in-Err-clause-done g c = record {
  answer =
      let s = c.args.state.now in
      let same = c.in-Err.ensures.err.0 in
      same_world g.Q.RecordStore.queue (config_in g.Q.RecordStore.queue c.args.profile.now s) s
      (record s { parts = c.cancel_waiting.new.parts; backlog = c.cancel_waiting.new.backlog })
      (queue_alone s.parts c.cancel_waiting.new.parts same)
      (ap (λ (p : Parts _). g.Q.RecordStore.queue p.queue) same) c.in-Err.ensures.err.1 refl refl refl;
  fit =
      let s = c.args.state.now in
      let same = c.in-Err.ensures.err.0 in
      same_fit g.Q.RecordStore.queue (config_in g.Q.RecordStore.queue c.args.profile.now s) s
      (record s { parts = c.cancel_waiting.new.parts; backlog = c.cancel_waiting.new.backlog })
      (queue_alone s.parts c.cancel_waiting.new.parts same)
      (ap (λ (p : Parts _). g.Q.RecordStore.queue p.queue) same) c.in-Err.ensures.err.1 refl refl refl c.requires.fit;
  same =
      let s = c.args.state.now in
      same_machine g.Q.RecordStore.queue c.args.profile.now s (record s { parts = c.cancel_waiting.new.parts; backlog = c.cancel_waiting.new.backlog })
      (ap (parts_of g.Q.RecordStore.queue) c.in-Err.ensures.err.0) refl c.in-Err.ensures.err.1 refl refl;
}

pub returns-in_default-clause-done : goal.returns-in_default-clause-done
returns-in_default-clause-done g c = record {
  answer =
      let s = c.args.state.now in
      let none = All-same (λ x. has_job x.running c.args.job ≡ false) s.initiators.items c.as_slice.result.now
      (sym c.as_slice.ensures.value) c.in_default.ensures.none in (
        table.no_job (no_job g.Q.RecordStore.queue (config_in g.Q.RecordStore.queue c.args.profile.now s) s c.requires c.args.job
            (sym c.if-has.ensures) none) refl refl,
        refl,
      );
  fit = c.requires.fit;
  same = λ names library. refl;
}

pub returns-in-Ok-clause-extents : goal.returns-in-Ok-clause-extents
returns-in-Ok-clause-extents g c = left_extents c.in-Ok.ensures.left
