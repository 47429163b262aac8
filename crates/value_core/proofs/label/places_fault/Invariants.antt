use Rattle.std.proofs.Common.{◌≡◌, length}
use Rattle.std.specs.List.{flat_map}
use Rattle.operand_core.specs.Faults.{earlier, told}
use Rattle.operand_core.specs.Operands.{keyword_of}
use Rattle.operand_core.specs.Subparameters.{subparameters_of}
use Rattle.value_core.specs.Labels.{place_faults}
use Rattle.value_core.proofs.label.places_fault.Given as goal

abbrev pub invariant-loop-place : goal.invariant-loop-place
invariant-loop-place l =
    earlier l.fault (told (flat_map (λ text. place_faults (keyword_of text)) l.places))
    ≡ told (flat_map (λ text. place_faults (keyword_of text)) (subparameters_of l.text))

abbrev pub decreases-loop-place : goal.decreases-loop-place
decreases-loop-place l = length l.places
