-- The numbers of refusals of names.
use Rattle.std.specs.Prelude.{ℕ}
use Rattle.jname_core.specs.declared.fault.NameFault.{NameFault}
use Rattle.jname_core.specs.declared.fault.NameFault.TheVariants.{Empty, TooLong, BadCharacter, BadGeneration}

abbrev pub number_of : NameFault → ℕ
number_of Empty = 1
number_of TooLong = 2
number_of BadCharacter = 3
number_of BadGeneration = 4
