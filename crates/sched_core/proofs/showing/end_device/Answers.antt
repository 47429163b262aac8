use Rattle.std.proofs.Common.{ap, refl, sym, subst}
use Rattle.world_meaning.specs.Devices.{EndsDevice}
use Rattle.sched_core.specs.Events.{LeadsTo}
use Rattle.sched_core.specs.Machines.{config_in, world_in}
use Rattle.sched_core.specs.Systems.{parts_of}
use Rattle.sched_core.proofs.Shows.{ended_so, fit_ended, fit_same, is_refused, never_refused_ended, refused_first, world_same}
use Rattle.sched_core.proofs.Unchanged.{same_machine}
use Rattle.sched_core.proofs.showing.end_device.Goals as goal

pub returns-in-Ok-clause-done : goal.returns-in-Ok-clause-done
returns-in-Ok-clause-done g c = record {
  answer =
      let queue_of = g.Q.RecordStore.queue in
      let s = c.args.state.now in
      let config = config_in queue_of c.args.profile.now s in
      subst (λ ls. LeadsTo (EndsDevice (world_in queue_of config s) c.args.serial ls) (world_in queue_of config (record s { parts = c.end_device.new.parts })))
      (sym c.empty.ensures) (ended_so queue_of config s c.requires c.args.serial c.end_device.new.parts c.in-Ok.ensures.rest c.in-Ok.ensures.ends);
  fit =
      let queue_of = g.Q.RecordStore.queue in
      let s = c.args.state.now in
      fit_ended queue_of (config_in queue_of c.args.profile.now s) s c.requires c.args.serial c.end_device.new.parts c.in-Ok.ensures.rest c.in-Ok.ensures.ends;
  same = tt;
}

pub returns-in-Ok-clause-refusal : goal.returns-in-Ok-clause-refusal
returns-in-Ok-clause-refusal g c =
    let queue_of = g.Q.RecordStore.queue in
    let s = c.args.state.now in
    never_refused_ended queue_of (config_in queue_of c.args.profile.now s) s c.requires c.args.serial c.end_device.new.parts c.in-Ok.ensures.rest c.in-Ok.ensures.ends _

pub returns-in-Err-clause-done : goal.returns-in-Err-clause-done
returns-in-Err-clause-done g c = record {
  answer =
      let queue_of = g.Q.RecordStore.queue in
      let s = c.args.state.now in (
        is_refused queue_of (config_in queue_of c.args.profile.now s) s c.requires c.args.serial c.in-Err.fault c.in-Err.ensures.refused,
        world_same queue_of (config_in queue_of c.args.profile.now s) s c.requires c.end_device.new.parts c.in-Err.ensures.err,
      );
  fit =
      let queue_of = g.Q.RecordStore.queue in
      let s = c.args.state.now in
      fit_same queue_of (config_in queue_of c.args.profile.now s) s c.requires c.end_device.new.parts c.in-Err.ensures.err;
  same =
      let s = c.args.state.now in
      same_machine g.Q.RecordStore.queue c.args.profile.now s (record s { parts = c.end_device.new.parts })
      (ap (parts_of g.Q.RecordStore.queue) c.in-Err.ensures.err) refl refl refl refl;
}

pub returns-in-Err-clause-refusal : goal.returns-in-Err-clause-refusal
returns-in-Err-clause-refusal g c =
    let queue_of = g.Q.RecordStore.queue in
    let s = c.args.state.now in
    refused_first queue_of (config_in queue_of c.args.profile.now s) s c.requires c.args.serial c.in-Err.fault c.in-Err.ensures.refused _ refl
