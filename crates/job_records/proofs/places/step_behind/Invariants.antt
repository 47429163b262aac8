use Rattle.std.proofs.Common.{◌≡◌, ◌≤◌, ◌-◌}
use Rattle.job_records.specs.Recorded.{along, next_step}
use Rattle.job_records.proofs.places.step_behind.Given as goal

-- so many links were followed
abbrev pub invariant-loop-k : goal.invariant-loop-k
invariant-loop-k g l = record { few : l.k ≤ l.count; n : l.n ≡ along (next_step (g.S.RecordStore.queue l.store)) l.first l.k }

abbrev pub decreases-loop-k : goal.decreases-loop-k
decreases-loop-k g l = l.count - l.k
