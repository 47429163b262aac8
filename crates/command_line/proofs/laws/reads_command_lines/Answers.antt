use Rattle.std.proofs.Common.{[], codes, sym, subst}
use Rattle.command_line.specs.CommandLines.{program_with}
use Rattle.command_line.specs.Examples.{AreExamples}
use Rattle.command_line.proofs.Examples.{at_places, examples}
use Rattle.command_line.proofs.laws.reads_command_lines.Goals as goal

pub returns : goal.returns
returns c program is = subst AreExamples (sym is.app_so)
    (at_places (λ choices. AreExamples (program_with (codes "mvt") [] choices)) examples is.choices is.choices_so)
