use Rattle.std.proofs.Common.{◌++◌, [], ◌∷◌, sym, ap, ◌∙◌}
use Rattle.jcl_plan.specs.declared.entry.Entry.TheVariants as entry
use Rattle.machine_core.specs.Events.{written_lines}
use Rattle.sched_core.specs.Machines.{config_in}
use Rattle.sched_core.proofs.Shows.{fit_wrote, wrote_so}
use Rattle.sched_core.proofs.showing.write.Goals as goal

pub returns-in_default-clause-done : goal.returns-in_default-clause-done
returns-in_default-clause-done g c = record {
  answer =
      let queue_of = g.Q.RecordStore.queue in
      let s = c.args.state.now in
      wrote_so queue_of (config_in queue_of c.args.profile.now s) s c.requires c.args.class c.write.new.parts c.write.ensures.rest c.write.result c.write.ensures.writes
      c.new.result (c.new.ensures ∙ c.in_ok-lines.ensures.items ∙ sym (ap (written_lines c.args.class) c.in_default.is));
  fit =
      let queue_of = g.Q.RecordStore.queue in
      let s = c.args.state.now in
      fit_wrote queue_of (config_in queue_of c.args.profile.now s) s c.requires c.args.class c.write.new.parts c.write.ensures.rest c.write.result c.write.ensures.writes;
  same = tt;
}

pub returns-clause-done : goal.returns-clause-done
returns-clause-done g c = record {
  answer =
      let queue_of = g.Q.RecordStore.queue in
      let s = c.args.state.now in
      wrote_so queue_of (config_in queue_of c.args.profile.now s) s c.requires c.args.class c.write.new.parts c.write.ensures.rest c.write.result c.write.ensures.writes
      c.new-2.result
      (c.new-2.ensures ∙ c.push_reserved.ensures.items
      ∙ ap (λ xs. xs ++ entry.Writer c.args.class c.in-Some.job c.in-Some.written ∷ []) c.in_ok-lines.ensures.items
      ∙ sym (ap (written_lines c.args.class) c.in-Some.is));
  fit =
      let queue_of = g.Q.RecordStore.queue in
      let s = c.args.state.now in
      fit_wrote queue_of (config_in queue_of c.args.profile.now s) s c.requires c.args.class c.write.new.parts c.write.ensures.rest c.write.result c.write.ensures.writes;
  same = tt;
}
