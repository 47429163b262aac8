use Rattle.turn_core.proofs.FewLines.{few}
use Rattle.turn_core.proofs.laws.few_lines.Goals as goal

pub returns : goal.returns
returns c = few
