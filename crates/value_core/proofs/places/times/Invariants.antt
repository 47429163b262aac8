use Rattle.std.proofs.Common.{◌≡◌, ◌≤◌, ◌+◌, min, length}
use Rattle.operand_core.specs.Subparameters.{subparameters_of}
use Rattle.value_core.specs.Places.{times}
use Rattle.value_core.proofs.places.times.Given as goal

abbrev pub invariant-loop-place : goal.invariant-loop-place
invariant-loop-place l =
    (l.count ≤ 18446744073709551615)
    × (min 18446744073709551615 (l.count + times l.key l.places) ≡ min 18446744073709551615 (times l.key (subparameters_of l.text)))

abbrev pub decreases-loop-place : goal.decreases-loop-place
decreases-loop-place l = length l.places
