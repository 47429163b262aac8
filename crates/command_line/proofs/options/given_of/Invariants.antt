use Rattle.std.proofs.Common.{◌≡◌, take}
use Rattle.clap.specs.Words.{first_value, found_of}
use Rattle.command_line.specs.CommandLines.{given_in, names_of, texts}
use Rattle.command_line.proofs.options.given_of.Given as goal

abbrev pub invariant-loop-flag : goal.invariant-loop-flag
invariant-loop-flag l = texts l.given.items ≡ given_in (first_value (found_of l.matches)) (names_of (take l.flag-index l.flags))
