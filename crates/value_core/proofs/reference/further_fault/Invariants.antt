use Rattle.std.proofs.Common.{◌≡◌, length}
use Rattle.std.specs.List.{flat_map}
use Rattle.std.specs.Option.{option_copied}
use Rattle.operand_core.specs.Faults.{earlier, name_faults, told}
use Rattle.value_core.specs.References.{components_left}
use Rattle.value_core.proofs.reference.further_fault.Given as goal

abbrev pub invariant-loop-left : goal.invariant-loop-left
invariant-loop-left l =
    earlier l.fault (told (flat_map name_faults (components_left (option_copied l.left))))
    ≡ told (flat_map name_faults (components_left (option_copied l.rest)))

abbrev pub decreases-loop-left : goal.decreases-loop-left
decreases-loop-left l = length (components_left (option_copied l.left))
