use Rattle.std.proofs.Common.{◌-◌, ◌≤◌}
use Rattle.chain_store.specs.Spots.{HasNoSpot}
use Rattle.chain_store.proofs.spots.find.Given as goal

abbrev pub invariant-loop-n : goal.invariant-loop-n
invariant-loop-n l = record { low : l.low ≤ l.n; none : HasNoSpot l.owners l.spots l.job l.low l.n }

abbrev pub decreases-loop-n : goal.decreases-loop-n
decreases-loop-n l = l.high - l.n
