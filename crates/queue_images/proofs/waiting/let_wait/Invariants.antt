use Rattle.std.proofs.Common.{◌≤◌}
use Rattle.queue_images.proofs.Waits.{WaitTo}
use Rattle.queue_images.proofs.waiting.let_wait.Given as goal

abbrev pub invariant-loop-job : goal.invariant-loop-job
invariant-loop-job l = record {
  from : 1 ≤ l.job;
  to : l.job ≤ 10000;
  wait : WaitTo l.fn.store.queue l.store.queue l.jobs l.job l.numbers.items;
}
