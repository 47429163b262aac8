use Rattle.std.proofs.Common.{◌∙◌, refl, sym, subst}
use Rattle.jcl_job.specs.Jobs.{job_of}
use Rattle.world_meaning.specs.Devices.{Writes}
use Rattle.world_meaning.specs.Displays.{SetsDate}
use Rattle.world_meaning.specs.Readings.{Reads}
use Rattle.world_meaning.specs.Transitions.{Does, Shows}
use Rattle.world_meaning.specs.Zaps.{ZapsRecord}
use Rattle.sched_core.specs.Events.{Answers, DoesSo, RefusesFirst}
use Rattle.sched_core.specs.Machines.{config_in, world_in}
use Rattle.sched_core.specs.Systems.{meant_by}
use Rattle.sched_core.proofs.Happened.{dates_never, never_so, shows_never, so_answers, writes_never}
use Rattle.sched_core.proofs.Followed.{on_ok, same_extents}
use Rattle.sched_core.proofs.happening.happen.Goals as goal

pub returns-in-Read-clause-done : goal.returns-in-Read-clause-done
returns-in-Read-clause-done g c = record {
  answer =
      let queue_of = g.Q.RecordStore.queue in
      let s = c.args.state.now in
      let config = config_in queue_of c.args.profile.now s in
      let job = job_of c.args.units.now c.args.library.now in
      let w = world_in queue_of config s in
      subst (λ e. Answers c.read.result w (world_in queue_of config c.read.new.state) (DoesSo s.parts.store job w (meant_by e))) (sym c.in-Read.is)
      (so_answers c.read.result w (world_in queue_of config c.read.new.state) _ _ (λ lines v d. (d, tt))
      (subst (λ d. Answers c.read.result w (world_in queue_of config c.read.new.state) (Reads job w d)) (c.as_slice.ensures ∙ c.get.ensures) c.read.ensures.done.answer));
  fit = c.read.ensures.done.fit;
  same = c.read.ensures.done.same;
}

pub returns-in-Read-clause-refusal : goal.returns-in-Read-clause-refusal
returns-in-Read-clause-refusal g c =
    let queue_of = g.Q.RecordStore.queue in
    let s = c.args.state.now in
    let config = config_in queue_of c.args.profile.now s in
    let job = job_of c.args.units.now c.args.library.now in
    let w = world_in queue_of config s in
    subst (λ e. RefusesFirst c.read.result (Does job w (meant_by e))) (sym c.in-Read.is)
    (subst (λ d. RefusesFirst c.read.result (Reads job w d)) (c.as_slice.ensures ∙ c.get.ensures) c.read.ensures.refusal)

pub returns-in-Turn-clause-done : goal.returns-in-Turn-clause-done
returns-in-Turn-clause-done g c = record {
  answer =
      let queue_of = g.Q.RecordStore.queue in
      let s = c.args.state.now in
      let config = config_in queue_of c.args.profile.now s in
      let job = job_of c.args.units.now c.args.library.now in
      let w = world_in queue_of config s in
      subst (λ e. Answers c.turn.result w (world_in queue_of config c.turn.new.state) (DoesSo s.parts.store job w (meant_by e))) (sym c.in-Turn.is) c.turn.ensures.done.answer;
  fit = c.turn.ensures.done.fit;
  same = c.turn.ensures.done.same;
}

pub returns-in-Turn-clause-refusal : goal.returns-in-Turn-clause-refusal
returns-in-Turn-clause-refusal g c =
    let queue_of = g.Q.RecordStore.queue in
    let s = c.args.state.now in
    let config = config_in queue_of c.args.profile.now s in
    let job = job_of c.args.units.now c.args.library.now in
    let w = world_in queue_of config s in
    subst (λ e. RefusesFirst c.turn.result (Does job w (meant_by e))) (sym c.in-Turn.is) c.turn.ensures.refusal

pub returns-in-DeviceEnd-clause-done : goal.returns-in-DeviceEnd-clause-done
returns-in-DeviceEnd-clause-done g c = record {
  answer =
      let queue_of = g.Q.RecordStore.queue in
      let s = c.args.state.now in
      let config = config_in queue_of c.args.profile.now s in
      let job = job_of c.args.units.now c.args.library.now in
      let w = world_in queue_of config s in
      subst (λ e. Answers c.end_device.result w (world_in queue_of config c.end_device.new.state) (DoesSo s.parts.store job w (meant_by e))) (sym c.in-DeviceEnd.is)
      (so_answers c.end_device.result w (world_in queue_of config c.end_device.new.state) _ _ (λ lines v d. (d, tt)) c.end_device.ensures.done.answer);
  fit = c.end_device.ensures.done.fit;
  same = c.end_device.ensures.done.same;
}

pub returns-in-DeviceEnd-clause-refusal : goal.returns-in-DeviceEnd-clause-refusal
returns-in-DeviceEnd-clause-refusal g c =
    let queue_of = g.Q.RecordStore.queue in
    let s = c.args.state.now in
    let config = config_in queue_of c.args.profile.now s in
    let job = job_of c.args.units.now c.args.library.now in
    let w = world_in queue_of config s in
    subst (λ e. RefusesFirst c.end_device.result (Does job w (meant_by e))) (sym c.in-DeviceEnd.is) c.end_device.ensures.refusal

pub returns-in-Write-clause-done : goal.returns-in-Write-clause-done
returns-in-Write-clause-done g c = record {
  answer =
      let queue_of = g.Q.RecordStore.queue in
      let s = c.args.state.now in
      let config = config_in queue_of c.args.profile.now s in
      let job = job_of c.args.units.now c.args.library.now in
      let w = world_in queue_of config s in
      subst (λ e. Answers c.write.result w (world_in queue_of config c.write.new.state) (DoesSo s.parts.store job w (meant_by e))) (sym c.in-Write.is)
      (so_answers c.write.result w (world_in queue_of config c.write.new.state) _ _ (λ lines v d. (d, tt)) c.write.ensures.done.answer);
  fit = c.write.ensures.done.fit;
  same = c.write.ensures.done.same;
}

pub returns-in-Write-clause-refusal : goal.returns-in-Write-clause-refusal
returns-in-Write-clause-refusal g c =
    let queue_of = g.Q.RecordStore.queue in
    let s = c.args.state.now in
    let config = config_in queue_of c.args.profile.now s in
    let job = job_of c.args.units.now c.args.library.now in
    let w = world_in queue_of config s in
    subst (λ e. RefusesFirst c.write.result (Does job w (meant_by e))) (sym c.in-Write.is) (never_so (Writes w c.in-Write.class) c.write.result (writes_never w c.in-Write.class))

pub returns-in-Cancel-clause-done : goal.returns-in-Cancel-clause-done
returns-in-Cancel-clause-done g c = record {
  answer =
      let queue_of = g.Q.RecordStore.queue in
      let s = c.args.state.now in
      let config = config_in queue_of c.args.profile.now s in
      let job = job_of c.args.units.now c.args.library.now in
      let w = world_in queue_of config s in
      subst (λ e. Answers c.cancel.result w (world_in queue_of config c.cancel.new.state) (DoesSo s.parts.store job w (meant_by e))) (sym c.in-Cancel.is)
      (so_answers c.cancel.result w (world_in queue_of config c.cancel.new.state) _ _ (λ lines v d. (d, tt)) c.cancel.ensures.done.answer);
  fit = c.cancel.ensures.done.fit;
  same = c.cancel.ensures.done.same;
}

pub returns-in-Cancel-clause-refusal : goal.returns-in-Cancel-clause-refusal
returns-in-Cancel-clause-refusal g c =
    let queue_of = g.Q.RecordStore.queue in
    let s = c.args.state.now in
    let config = config_in queue_of c.args.profile.now s in
    let job = job_of c.args.units.now c.args.library.now in
    let w = world_in queue_of config s in
    subst (λ e. RefusesFirst c.cancel.result (Does job w (meant_by e))) (sym c.in-Cancel.is) c.cancel.ensures.refusal

pub returns-in-Zap-clause-refusal : goal.returns-in-Zap-clause-refusal
returns-in-Zap-clause-refusal g c =
    let queue_of = g.Q.RecordStore.queue in
    let s = c.args.state.now in
    let config = config_in queue_of c.args.profile.now s in
    let job = job_of c.args.units.now c.args.library.now in
    let w = world_in queue_of config s in
    subst (λ e. RefusesFirst c.zap.result (Does job w (meant_by e))) (sym c.in-Zap.is)
    (subst (λ bytes. RefusesFirst c.zap.result (ZapsRecord w c.in-Zap.n c.in-Zap.offset bytes)) (c.as_slice-in-Zap.ensures.value ∙ c.get-in-Zap.ensures) c.zap.ensures.refusal)

pub returns-in-Display-clause-done : goal.returns-in-Display-clause-done
returns-in-Display-clause-done g c = record {
  answer =
      let queue_of = g.Q.RecordStore.queue in
      let s = c.args.state.now in
      let config = config_in queue_of c.args.profile.now s in
      let job = job_of c.args.units.now c.args.library.now in
      let w = world_in queue_of config s in
      subst (λ e. Answers c.display.result w (world_in queue_of config c.args.state.now) (DoesSo s.parts.store job w (meant_by e))) (sym c.in-Display.is)
      (so_answers c.display.result w (world_in queue_of config c.args.state.now) _ _ (λ lines v d. (d, tt)) c.display.ensures.done.answer);
  fit = c.display.ensures.done.fit;
  same = c.display.ensures.done.same;
}

pub returns-in-Display-clause-refusal : goal.returns-in-Display-clause-refusal
returns-in-Display-clause-refusal g c =
    let queue_of = g.Q.RecordStore.queue in
    let s = c.args.state.now in
    let config = config_in queue_of c.args.profile.now s in
    let job = job_of c.args.units.now c.args.library.now in
    let w = world_in queue_of config s in
    subst (λ e. RefusesFirst c.display.result (Does job w (meant_by e))) (sym c.in-Display.is) (never_so (Shows w) c.display.result (shows_never w))

pub returns-in-Read-clause-extents : goal.returns-in-Read-clause-extents
returns-in-Read-clause-extents g c = on_ok c.read.result (same_extents c.args.state.now.parts.store c.read.new.state.parts.store c.read.ensures.store)

pub returns-in-DeviceEnd-clause-extents : goal.returns-in-DeviceEnd-clause-extents
returns-in-DeviceEnd-clause-extents g c = on_ok c.end_device.result (same_extents c.args.state.now.parts.store c.end_device.new.state.parts.store c.end_device.ensures.store)

pub returns-in-Write-clause-extents : goal.returns-in-Write-clause-extents
returns-in-Write-clause-extents g c = on_ok c.write.result (same_extents c.args.state.now.parts.store c.write.new.state.parts.store c.write.ensures.store)

pub returns-in-Zap-clause-extents : goal.returns-in-Zap-clause-extents
returns-in-Zap-clause-extents g c = on_ok c.zap.result (same_extents c.args.state.now.parts.store c.zap.new.state.parts.store c.zap.ensures.store)

pub returns-in-Display-clause-extents : goal.returns-in-Display-clause-extents
returns-in-Display-clause-extents g c = on_ok c.display.result (same_extents c.args.state.now.parts.store c.args.state.now.parts.store refl)

pub returns-in-Zap-clause-done : goal.returns-in-Zap-clause-done
returns-in-Zap-clause-done g c =
    let queue_of = g.Q.RecordStore.queue in
    let s = c.args.state.now in
    let config = config_in queue_of c.args.profile.now s in
    let job = job_of c.args.units.now c.args.library.now in
    let w = world_in queue_of config s in
    record {
      answer = subst (λ e. Answers c.zap.result w (world_in queue_of config c.zap.new.state) (DoesSo s.parts.store job w (meant_by e))) (sym c.in-Zap.is)
          (so_answers c.zap.result w (world_in queue_of config c.zap.new.state) _ _ (λ lines v d. (d, tt))
          (subst (λ bytes. Answers c.zap.result w (world_in queue_of config c.zap.new.state) (ZapsRecord w c.in-Zap.n c.in-Zap.offset bytes))
          (c.as_slice-in-Zap.ensures.value ∙ c.get-in-Zap.ensures) c.zap.ensures.done.answer));
      fit = c.zap.ensures.done.fit;
      same = c.zap.ensures.done.same;
    }

pub returns-in-Date-clause-done : goal.returns-in-Date-clause-done
returns-in-Date-clause-done g c = record {
  answer =
      let queue_of = g.Q.RecordStore.queue in
      let s = c.args.state.now in
      let config = config_in queue_of c.args.profile.now s in
      let job = job_of c.args.units.now c.args.library.now in
      let w = world_in queue_of config s in
      subst (λ e. Answers c.set_date.result w (world_in queue_of config c.set_date.new.state) (DoesSo s.parts.store job w (meant_by e))) (sym c.in-Date.is)
      (so_answers c.set_date.result w (world_in queue_of config c.set_date.new.state) _ _ (λ lines v d. (d, tt)) c.set_date.ensures.done.answer);
  fit = c.set_date.ensures.done.fit;
  same = c.set_date.ensures.done.same;
}

pub returns-in-Date-clause-refusal : goal.returns-in-Date-clause-refusal
returns-in-Date-clause-refusal g c =
    let queue_of = g.Q.RecordStore.queue in
    let s = c.args.state.now in
    let config = config_in queue_of c.args.profile.now s in
    let job = job_of c.args.units.now c.args.library.now in
    let w = world_in queue_of config s in
    subst (λ e. RefusesFirst c.set_date.result (Does job w (meant_by e))) (sym c.in-Date.is) (never_so (SetsDate w c.in-Date.day) c.set_date.result (dates_never w c.in-Date.day))

pub returns-in-Date-clause-extents : goal.returns-in-Date-clause-extents
returns-in-Date-clause-extents g c = on_ok c.set_date.result (same_extents c.args.state.now.parts.store c.set_date.new.state.parts.store c.set_date.ensures.store)
