-- The numbers of session faults.
use Rattle.std.specs.Prelude.{ℕ}
use Rattle.session_text.specs.declared.fault.Fault.{Fault}
use Rattle.session_text.specs.declared.fault.Fault.TheVariants.{UnknownStatement, BadValue, DefinedTwice, NoEnd, TooLong, ReadFailed, WriteFailed, LateConfiguration}

abbrev pub number_of : Fault → ℕ
number_of UnknownStatement = 1
number_of BadValue = 2
number_of DefinedTwice = 3
number_of NoEnd = 4
number_of TooLong = 5
number_of ReadFailed = 6
number_of WriteFailed = 7
number_of LateConfiguration = 8
