use Rattle.std.proofs.Common.{◌≢◌, All, Ok, Err, ap, refl, subst}
use Rattle.machine_core.specs.declared.parts.Parts.{Parts}
use Rattle.sched_core.specs.Machines.{config_in, world_in}
use Rattle.sched_core.specs.Systems.{parts_of}
use Rattle.sched_core.specs.declared.fault.ApplyFault.TheVariants.{Memory}
use Rattle.sched_core.proofs.Cancelled.{fit_running, leads_running, never_refused, some_running}
use Rattle.sched_core.proofs.Unchanged.{same_world, queue_alone, same_fit, same_machine}
use Rattle.sched_core.proofs.Followed.{cancelled_extents}
use Rattle.sched_core.proofs.Unqueued.{unqueued_at}
use Rattle.sched_core.proofs.cancelling.cancel_there.Goals as goal

pub cancel_at-requires-clause-unqueued : goal.cancel_at-requires-clause-unqueued
cancel_at-requires-clause-unqueued g c =
    let s = c.args.state.now in
    subst (λ job. All (λ x. x.job ≢ job) (g.Q.RecordStore.queue s.parts.queue).waiting) c.requires.runs.2
    (unqueued_at g.Q.RecordStore.queue (config_in g.Q.RecordStore.queue c.args.profile.now s) s c.requires.kept c.args.place c.requires.runs.0 c.requires.runs.1)

pub cancel_at-requires-clause-runs : goal.cancel_at-requires-clause-runs
cancel_at-requires-clause-runs g c =
    let s = c.args.state.now in
    let r = c.requires.runs.0 in
    let its = c.requires.runs.1 in (
      its.it,
      its.at,
      record {
        running = r;
        runs = its.running;
        same = c.requires.runs.2;
        config = config_in g.Q.RecordStore.queue c.args.profile.now s;
        ready = c.requires.kept.fit.ready c.args.place r its;
      },
    )

pub returns-in-Ok-clause-done : goal.returns-in-Ok-clause-done
returns-in-Ok-clause-done g c = record {
  answer =
      let s = c.args.state.now in
      leads_running g.Q.RecordStore.queue (config_in g.Q.RecordStore.queue c.args.profile.now s) s c.requires.kept c.args.job
      (record s { parts = c.cancel_at.new.parts; initiators = c.cancel_at.new.initiators }) c.in-Ok.lines refl refl
      c.args.place c.requires.runs.0 c.requires.runs.1 c.requires.runs.2 refl c.in-Ok.ensures.ok;
  fit =
      let s = c.args.state.now in
      fit_running g.Q.RecordStore.queue (config_in g.Q.RecordStore.queue c.args.profile.now s) s c.requires.kept c.args.job
      (record s { parts = c.cancel_at.new.parts; initiators = c.cancel_at.new.initiators }) c.in-Ok.lines refl refl
      c.args.place c.requires.runs.0 c.requires.runs.1 c.requires.runs.2 refl c.in-Ok.ensures.ok;
  same = tt;
}

pub returns-in-Ok-clause-refusal : goal.returns-in-Ok-clause-refusal
returns-in-Ok-clause-refusal g c =
    let s = c.args.state.now in
    never_refused (world_in g.Q.RecordStore.queue (config_in g.Q.RecordStore.queue c.args.profile.now s) s) c.args.job (Ok c.in-Ok.lines)
    (some_running g.Q.RecordStore.queue (config_in g.Q.RecordStore.queue c.args.profile.now s) s c.requires.kept c.args.job
    c.args.place c.requires.runs.0 c.requires.runs.1 c.requires.runs.2)

pub returns-in-Err-clause-refusal : goal.returns-in-Err-clause-refusal
returns-in-Err-clause-refusal g c =
    let s = c.args.state.now in
    never_refused (world_in g.Q.RecordStore.queue (config_in g.Q.RecordStore.queue c.args.profile.now s) s) c.args.job (Err Memory)
    (some_running g.Q.RecordStore.queue (config_in g.Q.RecordStore.queue c.args.profile.now s) s c.requires.kept c.args.job
    c.args.place c.requires.runs.0 c.requires.runs.1 c.requires.runs.2)

pub returns-in-Err-clause-done : goal.returns-in-Err-clause-done
returns-in-Err-clause-done g c = record {
  answer =
      let s = c.args.state.now in
      let same = c.in-Err.ensures.err.0 in
      same_world g.Q.RecordStore.queue (config_in g.Q.RecordStore.queue c.args.profile.now s) s
      (record s { parts = c.cancel_at.new.parts; initiators = c.cancel_at.new.initiators })
      (queue_alone s.parts c.cancel_at.new.parts same)
      (ap (λ (p : Parts _). g.Q.RecordStore.queue p.queue) same) refl c.in-Err.ensures.err.1 refl refl;
  fit =
      let s = c.args.state.now in
      let same = c.in-Err.ensures.err.0 in
      same_fit g.Q.RecordStore.queue (config_in g.Q.RecordStore.queue c.args.profile.now s) s
      (record s { parts = c.cancel_at.new.parts; initiators = c.cancel_at.new.initiators })
      (queue_alone s.parts c.cancel_at.new.parts same)
      (ap (λ (p : Parts _). g.Q.RecordStore.queue p.queue) same) refl c.in-Err.ensures.err.1 refl refl c.requires.kept.fit;
  same =
      let s = c.args.state.now in
      same_machine g.Q.RecordStore.queue c.args.profile.now s (record s { parts = c.cancel_at.new.parts; initiators = c.cancel_at.new.initiators })
      (ap (parts_of g.Q.RecordStore.queue) c.in-Err.ensures.err.0) c.in-Err.ensures.err.1 refl refl refl;
}

pub returns-in-Ok-clause-extents : goal.returns-in-Ok-clause-extents
returns-in-Ok-clause-extents g c = cancelled_extents c.in-Ok.ensures.ok.cancels
