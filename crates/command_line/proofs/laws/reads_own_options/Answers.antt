use Rattle.std.proofs.Common.{codes, sym, subst}
use Rattle.command_line.specs.CommandLines.{program_with}
use Rattle.command_line.specs.Examples.{AreOwnExamples, own_flags}
use Rattle.command_line.proofs.Examples.{at_places, own_examples}
use Rattle.command_line.proofs.laws.reads_own_options.Goals as goal

pub returns : goal.returns
returns c program is = subst AreOwnExamples (sym is.app_so)
    (at_places (λ choices. AreOwnExamples (program_with (codes "mvt-play") own_flags choices)) own_examples is.choices is.choices_so)
