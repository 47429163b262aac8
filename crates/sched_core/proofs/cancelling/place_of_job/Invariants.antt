use Rattle.std.proofs.Common.{◌≡◌, All, false, take}
use Rattle.sched_core.specs.Cancelling.{has_job}
use Rattle.sched_core.proofs.cancelling.place_of_job.Given as goal

abbrev pub invariant-loop-place : goal.invariant-loop-place
invariant-loop-place l = All (λ x. has_job x.running l.job ≡ false) (take l.place l.initiators)
