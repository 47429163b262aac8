use Rattle.std.proofs.Common.{is_some, length, ap, subst, sym, ◌∙◌}
use Rattle.std.specs.Prelude.{filter}
use Rattle.plain.specs.Lists.{Differ}
use Rattle.machine_core.specs.Events.{Shows as MachineShows}
use Rattle.sched_core.specs.Machines.{config_in}
use Rattle.sched_core.specs.declared.state.Initiator.{Initiator}
use Rattle.sched_core.proofs.Apart.{differ_all}
use Rattle.sched_core.proofs.Shows.{showing, shows_so}
use Rattle.sched_core.proofs.showing.display.Goals as goal

pub show-requires : goal.show-requires
show-requires g c = subst Differ (sym c.requires.fit.good.volumes) (differ_all c.args.profile.now.volumes.now c.args.profile.now.apart)

pub returns-clause-done : goal.returns-clause-done
returns-clause-done g c = record {
  answer =
      let queue_of = g.Q.RecordStore.queue in
      let s = c.args.state.now in
      let config = config_in queue_of c.args.profile.now s in
      shows_so queue_of config s c.requires c.in_ok-lines.lines c.count_busy-running.result (subst (λ volumes. MachineShows queue_of volumes s.parts c.count_busy-running.result c.in_ok-lines.lines) c.requires.fit.good.volumes
      c.in_ok-lines.ensures)
      (showing queue_of config s c.requires c.waiting_are_listed.ensures.queued c.count_busy-running.result
      (c.count_busy-running.ensures.count ∙ ap (λ xs. length (filter (λ (x : Initiator). is_some x.running) xs)) c.as_slice.ensures.value));
  fit = c.requires.fit;
  same = tt;
}
