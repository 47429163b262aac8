use Rattle.std.proofs.Common.{◌≡◌, take}
use Rattle.clap.specs.Words.{app_of}
use Rattle.command_line.specs.CommandLines.{names_of, with_flags}
use Rattle.command_line.proofs.command.with_flags.Given as goal

abbrev pub invariant-loop-flag : goal.invariant-loop-flag
invariant-loop-flag l = app_of l.command ≡ with_flags (app_of l.initial.command) (names_of (take l.flag-index l.flags))
