use Rattle.std.proofs.Common.{◌≡◌, length}
use Rattle.operand_core.specs.Subparameters.{subparameters_of}
use Rattle.value_core.specs.Labels.{expiry_in}
use Rattle.value_core.proofs.label.expiry_in.Given as goal

abbrev pub invariant-loop-place : goal.invariant-loop-place
invariant-loop-place l = expiry_in l.places ≡ expiry_in (subparameters_of l.text)

abbrev pub decreases-loop-place : goal.decreases-loop-place
decreases-loop-place l = length l.places
