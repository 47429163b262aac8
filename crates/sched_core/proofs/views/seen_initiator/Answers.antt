use Rattle.std.proofs.Common.{Option, Some, sym, ap, ◌∙◌}
use Rattle.std.specs.Option.{option_map}
use Rattle.init_core.specs.Running.{shown_running}
use Rattle.init_core.specs.declared.running.Running.{Running}
use Rattle.sched_core.specs.Views.{seen_job}
use Rattle.sched_core.proofs.views.seen_initiator.Goals as goal
use Rattle.sched_core.proofs.views.seen_initiator.Goals.{in-None, in-Some}

pub returns : goal.returns
returns c = λ config queue.
    elim c.match-x.branch [
      | in-None w ↦ λ i. record {
        number = c.args.x.now.number;
        classes = c.args.x.now.classes;
        job = (w.job-is ∙ ap (λ (o : Option Running). option_map seen_job (option_map (shown_running config queue) o)) (sym w.in-None.is)) i;
      }
      | in-Some w ↦ λ i. record {
        number = c.args.x.now.number;
        classes = c.args.x.now.classes;
        job = (w.job-is
            ∙ ap Some (w.seen_job.ensures config queue)
            ∙ ap (λ (o : Option Running). option_map seen_job (option_map (shown_running config queue) o)) (sym w.in-Some.is)) i;
      }
    ]
