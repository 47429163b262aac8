use Rattle.std.proofs.Common.{length}
use Rattle.operand_core.specs.Subparameters.{subparameters_of}
use Rattle.list_values.proofs.References.{Continues}
use Rattle.list_values.proofs.control_blocks.control_blocks.Given as goal

abbrev pub invariant-loop-place : goal.invariant-loop-place
invariant-loop-place l = Continues l.references l.fault l.places (subparameters_of l.text)

abbrev pub decreases-loop-place : goal.decreases-loop-place
decreases-loop-place l = length l.places
