use Rattle.std.proofs.Common.{◌+◌, ◌-◌, ◌≤◌}
use Rattle.chain_store.specs.Chains.{AreEmpty}
use Rattle.chain_store.proofs.chains.first_used.Given as goal

abbrev pub invariant-loop-place : goal.invariant-loop-place
invariant-loop-place l = record { after : l.from ≤ l.place; within : l.place ≤ l.from + 14; empty : AreEmpty l.chains l.from l.place }

abbrev pub decreases-loop-place : goal.decreases-loop-place
decreases-loop-place l = l.from + 14 - l.place
