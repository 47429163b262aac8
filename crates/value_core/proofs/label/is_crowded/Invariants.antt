use Rattle.std.proofs.Common.{◌≡◌, length}
use Rattle.operand_core.specs.Subparameters.{subparameters_of}
use Rattle.value_core.specs.Labels.{is_crowded}
use Rattle.value_core.proofs.Crowded.{crowded_with}
use Rattle.value_core.proofs.label.is_crowded.Given as goal

abbrev pub invariant-loop-place : goal.invariant-loop-place
invariant-loop-place l = crowded_with l.has_keyword l.positional l.places ≡ is_crowded (subparameters_of l.text)

abbrev pub decreases-loop-place : goal.decreases-loop-place
decreases-loop-place l = length l.places
