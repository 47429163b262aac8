-- DCB: its references to earlier DDs; the rest is read for its form alone. (GC28-6704, DCB parameter)
use Rattle.std.specs.Prelude.{ℕ, List, filter, map}
use Rattle.operand_core.specs.Subparameters.{subparameters_of}
use Rattle.value_core.specs.declared.reference.DdReference.{DdReference}
use Rattle.value_core.specs.Reads.{Read, all_of}
use Rattle.value_core.specs.References.{dd_reference, is_reference}

abbrev pub control_blocks : List ℕ → Read (List DdReference)
control_blocks text = all_of (map dd_reference (filter is_reference (subparameters_of text)))
