use Rattle.std.proofs.Common.{◌++◌, [], ◌∷◌, ap, ◌∙◌}
use Rattle.jcl_plan.specs.declared.entry.Entry.TheVariants as entry
use Rattle.sched_core.specs.Machines.{config_in}
use Rattle.sched_core.proofs.Shows.{dated_so, fit_dated}
use Rattle.sched_core.proofs.showing.set_date.Goals as goal

pub returns-clause-done : goal.returns-clause-done
returns-clause-done g c = record {
  answer =
      let queue_of = g.Q.RecordStore.queue in
      let s = c.args.state.now in
      dated_so queue_of (config_in queue_of c.args.profile.now s) s c.requires c.args.day c.date_of-date.result c.date_of-date.ensures c.new.result
      (c.new.ensures ∙ c.push_reserved.ensures.items
      ∙ ap (λ xs. xs ++ entry.Date c.date_of-date.result.year c.date_of-date.result.of_year ∷ []) c.in_ok-lines.ensures.items);
  fit =
      let queue_of = g.Q.RecordStore.queue in
      let s = c.args.state.now in
      fit_dated queue_of (config_in queue_of c.args.profile.now s) s c.requires c.args.day c.date_of-date.result c.date_of-date.ensures;
  same = tt;
}
