-- What a session's text says is printable. (This profile)
use Rattle.std.specs.Prelude.{ℕ, List}
use Rattle.print_laws.specs.Texts.{ArePrintableTexts}
use Rattle.run_options.specs.declared.Options.{Options}
use Rattle.session_text.specs.declared.statement.Ending.{Ending}
use Rattle.session_core.specs.Sessions.{session_of, world_at_start}

-- So is the machine before its first event, which the statements of any text configure.
abbrev pub SessionsStartPrintable : Type 0
SessionsStartPrintable = (o : Options) (ending : Ending) (text : List ℕ) → ArePrintableTexts (world_at_start o (session_of ending text).stands)
