use Rattle.std.proofs.Common.{◌+◌, length, refl, subst, sym}
use Rattle.cb_chain.specs.Written.{HasDays}
use Rattle.cb_chain.proofs.DaysHeld.{days_held}
use Rattle.jcl_refs.specs.Plans.{most_steps}
use Rattle.sched_core.specs.Machines.{config_in}
use Rattle.sched_core.specs.Systems.{parts_of}
use Rattle.sched_core.proofs.Entered.{fit, leads, listed_before, queued_before}
use Rattle.sched_core.proofs.Unchanged.{same_fit, same_machine, same_world}
use Rattle.sched_core.proofs.reading.accept.Goals as goal

pub take_in-requires-clause-queued : goal.take_in-requires-clause-queued
take_in-requires-clause-queued g c =
    let s = c.args.state.now in
    queued_before g.Q.RecordStore.queue (config_in g.Q.RecordStore.queue c.args.profile.now s) s c.requires.kept c.requires.few

pub take_in-requires-clause-listed : goal.take_in-requires-clause-listed
take_in-requires-clause-listed g c =
    let s = c.args.state.now in
    listed_before g.Q.RecordStore.queue (config_in g.Q.RecordStore.queue c.args.profile.now s) s c.requires.kept c.requires.few

pub take_in-requires-clause-days : goal.take_in-requires-clause-days
take_in-requires-clause-days g c =
    let layout = (g.Q.RecordStore.queue c.args.state.now.parts.queue).layout in
    days_held layout (subst HasDays (sym c.requires.kept.fit.good.layout) c.requires.kept.fit.days) most_steps (length c.args.profile.now.units.now)
    c.args.plan.now c.requires.writable

pub returns-in-Ok-clause-done : goal.returns-in-Ok-clause-done
returns-in-Ok-clause-done g c = record {
  answer =
      let s = c.args.state.now in
      leads g.Q.RecordStore.queue (config_in g.Q.RecordStore.queue c.args.profile.now s) s c.requires.kept c.requires.few c.args.plan.now
      (record s { parts = record s.parts { queue = c.take_in.new.queue }; backlog = c.take_in.new.backlog; jobs = s.jobs + 1 })
      c.in-Ok.lines refl refl refl refl c.requires.writable c.in-Ok.ensures.ok;
  fit =
      let s = c.args.state.now in
      fit g.Q.RecordStore.queue (config_in g.Q.RecordStore.queue c.args.profile.now s) s c.requires.kept c.requires.few c.args.plan.now
      (record s { parts = record s.parts { queue = c.take_in.new.queue }; backlog = c.take_in.new.backlog; jobs = s.jobs + 1 })
      c.in-Ok.lines refl refl refl refl c.in-Ok.ensures.ok;
  same = tt;
}

pub returns-in-Err-clause-done : goal.returns-in-Err-clause-done
returns-in-Err-clause-done g c = record {
  answer =
      let s = c.args.state.now in
      same_world g.Q.RecordStore.queue (config_in g.Q.RecordStore.queue c.args.profile.now s) s
      (record s { parts = record s.parts { queue = c.take_in.new.queue }; backlog = c.take_in.new.backlog })
      refl c.in-Err.ensures.err.0 c.in-Err.ensures.err.1 refl refl refl;
  fit =
      let s = c.args.state.now in
      same_fit g.Q.RecordStore.queue (config_in g.Q.RecordStore.queue c.args.profile.now s) s
      (record s { parts = record s.parts { queue = c.take_in.new.queue }; backlog = c.take_in.new.backlog })
      refl c.in-Err.ensures.err.0 c.in-Err.ensures.err.1 refl refl refl c.requires.kept.fit;
  same =
      let s = c.args.state.now in
      same_machine g.Q.RecordStore.queue c.args.profile.now s
      (record s { parts = record s.parts { queue = c.take_in.new.queue }; backlog = c.take_in.new.backlog })
      (λ i. record (parts_of g.Q.RecordStore.queue s.parts) { queue = c.in-Err.ensures.err.0 i }) refl c.in-Err.ensures.err.1 refl refl;
}
