-- The numbers of refusals of the catalog.
use Rattle.std.specs.Prelude.{ℕ, Option, Some, None}
use Rattle.cat_core.specs.declared.fault.CatFault.{CatFault}
use Rattle.cat_core.specs.declared.fault.CatFault.TheVariants.{There, NotThere, NoGroup, NoGeneration, TooHigh, Memory}

abbrev pub number_of : CatFault → Option ℕ
number_of There = Some 1
number_of NotThere = Some 2
number_of NoGroup = Some 3
number_of NoGeneration = Some 4
number_of TooHigh = Some 5
number_of Memory = None
