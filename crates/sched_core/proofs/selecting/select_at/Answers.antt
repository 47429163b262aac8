use Rattle.std.proofs.Common.{refl}
use Rattle.sched_core.specs.Machines.{config_in}
use Rattle.sched_core.specs.Systems.{parts_of}
use Rattle.sched_core.proofs.Selected.{fit, leads}
use Rattle.sched_core.proofs.Unchanged.{same_fit, same_machine, same_world}
use Rattle.sched_core.proofs.selecting.select_at.Goals as goal

pub returns-in-Ok-clause-done : goal.returns-in-Ok-clause-done
returns-in-Ok-clause-done g c = record {
  answer =
      let s = c.args.state.now in
      leads g.Q.RecordStore.queue (config_in g.Q.RecordStore.queue c.args.profile.now s) s c.requires.kept
      c.layout-layout.ensures.sound.in_order c.args.place c.requires.idle
      (record s { parts = record s.parts { queue = c.seat_next.new.queue }; initiators = c.seat_next.new.initiators; backlog = c.seat_next.new.backlog })
      c.in-Ok.lines refl refl refl c.in-Ok.ensures.ok;
  fit =
      let s = c.args.state.now in
      fit g.Q.RecordStore.queue (config_in g.Q.RecordStore.queue c.args.profile.now s) s c.requires.kept
      c.layout-layout.ensures.sound.in_order c.args.place c.requires.idle
      (record s { parts = record s.parts { queue = c.seat_next.new.queue }; initiators = c.seat_next.new.initiators; backlog = c.seat_next.new.backlog })
      c.in-Ok.lines refl refl refl c.in-Ok.ensures.ok;
  same = tt;
}

pub returns-in-Err-clause-done : goal.returns-in-Err-clause-done
returns-in-Err-clause-done g c = record {
  answer =
      let s = c.args.state.now in
      same_world g.Q.RecordStore.queue (config_in g.Q.RecordStore.queue c.args.profile.now s) s
      (record s { parts = record s.parts { queue = c.seat_next.new.queue }; initiators = c.seat_next.new.initiators; backlog = c.seat_next.new.backlog })
      refl c.in-Err.ensures.err.0 c.in-Err.ensures.err.1 c.in-Err.ensures.err.2 refl refl;
  fit =
      let s = c.args.state.now in
      same_fit g.Q.RecordStore.queue (config_in g.Q.RecordStore.queue c.args.profile.now s) s
      (record s { parts = record s.parts { queue = c.seat_next.new.queue }; initiators = c.seat_next.new.initiators; backlog = c.seat_next.new.backlog })
      refl c.in-Err.ensures.err.0 c.in-Err.ensures.err.1 c.in-Err.ensures.err.2 refl refl c.requires.kept.fit;
  same =
      let s = c.args.state.now in
      same_machine g.Q.RecordStore.queue c.args.profile.now s
      (record s { parts = record s.parts { queue = c.seat_next.new.queue }; initiators = c.seat_next.new.initiators; backlog = c.seat_next.new.backlog })
      (λ i. record (parts_of g.Q.RecordStore.queue s.parts) { queue = c.in-Err.ensures.err.0 i }) c.in-Err.ensures.err.2 c.in-Err.ensures.err.1 refl refl;
}
