-- The numbers of refusals of volumes.
use Rattle.std.specs.Prelude.{ℕ, Option, Some, None}
use Rattle.vtoc_core.specs.declared.fault.VolumeFault.{VolumeFault}
use Rattle.vtoc_core.specs.declared.fault.VolumeFault.TheVariants.{NameThere, NameMissing, NoSpace, TooManyExtents, Memory}

abbrev pub number_of : VolumeFault → Option ℕ
number_of NameThere = Some 1
number_of NameMissing = Some 2
number_of NoSpace = Some 3
number_of TooManyExtents = Some 4
number_of Memory = None
