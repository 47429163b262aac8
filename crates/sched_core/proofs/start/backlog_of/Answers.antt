use Rattle.std.proofs.Common.{◌<◌, All, get_or, subst, sym}
use Rattle.queued_job.specs.declared.backlog.Listing.{Listing}
use Rattle.sched_core.proofs.Opened.{less_before}
use Rattle.sched_core.proofs.start.backlog_of.Goals as goal

pub enter-requires : goal.enter-requires
enter-requires c = record {
  later = subst (λ ls. All (λ (x : Listing). x.job < get_or c.args.jobs.now c.loop-job.job-index 0) ls) (sym c.loop-job.invariant)
      (less_before c.args.jobs.now c.loop-job.job-index c.requires c.loop-job-test.true);
}
