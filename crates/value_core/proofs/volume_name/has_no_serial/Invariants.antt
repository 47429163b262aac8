use Rattle.std.proofs.Common.{◌≡◌, length}
use Rattle.std.specs.List.{list_any}
use Rattle.jname_core.specs.Faults.{is_no_serial}
use Rattle.operand_core.specs.Subparameters.{subparameters_of}
use Rattle.value_core.proofs.volume_name.has_no_serial.Given as goal

abbrev pub invariant-loop-place : goal.invariant-loop-place
invariant-loop-place l = list_any is_no_serial l.places ≡ list_any is_no_serial (subparameters_of l.text)

abbrev pub decreases-loop-place : goal.decreases-loop-place
decreases-loop-place l = length l.places
