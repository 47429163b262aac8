-- The numbers of refusals of cards.
use Rattle.std.specs.Prelude.{ℕ}
use Rattle.card_core.specs.declared.fault.CardFault.{CardFault}
use Rattle.card_core.specs.declared.fault.CardFault.TheVariants.{LineTooLong, BadByte, NotContinued, ResumedOutside, OpenApostrophe, NoOperation, DataBeforeExec}

abbrev pub number_of : CardFault → ℕ
number_of LineTooLong = 1
number_of BadByte = 2
number_of NotContinued = 3
number_of ResumedOutside = 4
number_of OpenApostrophe = 5
number_of NoOperation = 6
number_of DataBeforeExec = 7
