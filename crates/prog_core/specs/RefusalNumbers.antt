-- The numbers of refusals of the operations on volumes.
use Rattle.std.specs.Prelude.{ℕ}
use Rattle.prog_core.specs.declared.fault.UnitFault.{UnitFault}
use Rattle.prog_core.specs.declared.fault.UnitFault.TheVariants.{Busy, NotStarted, NotEnded}

abbrev pub number_of : UnitFault → ℕ
number_of Busy = 1
number_of NotStarted = 2
number_of NotEnded = 3
