-- What is told of a session's fault: its number and its line.
use Rattle.std.specs.Prelude.{ℕ, Option, Some, None}
use Rattle.session_text.specs.FaultNumbers.{number_of}
use Rattle.session_core.specs.declared.SessionFault.{SessionFault}
use Rattle.session_core.specs.declared.SessionFault.TheVariants.{Stopped, WriteFailed, Memory}

abbrev pub number_and_line : SessionFault → Option (ℕ × ℕ)
number_and_line (Stopped fault line) = Some (number_of fault, line)
number_and_line (WriteFailed line) = Some (7, line)
number_and_line Memory = None
