use Rattle.std.proofs.Common.{◌≡◌, length}
use Rattle.operand_core.specs.Subparameters.{subparameters_of}
use Rattle.value_core.specs.VolumeNames.{first_named, with_later}
use Rattle.value_core.proofs.Volumes.{answer}
use Rattle.value_core.proofs.volume_name.named_in.Given as goal

abbrev pub invariant-loop-place : goal.invariant-loop-place
invariant-loop-place l = with_later l.volume (answer (first_named l.places)) ≡ answer (first_named (subparameters_of l.text))

abbrev pub decreases-loop-place : goal.decreases-loop-place
decreases-loop-place l = length l.places
