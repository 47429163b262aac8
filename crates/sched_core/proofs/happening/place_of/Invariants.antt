use Rattle.std.proofs.Common.{◌≢◌, All, take}
use Rattle.sched_core.proofs.happening.place_of.Given as goal

abbrev pub invariant-loop-place : goal.invariant-loop-place
invariant-loop-place l = All (λ x. x.number ≢ l.number) (take l.place l.initiators)
