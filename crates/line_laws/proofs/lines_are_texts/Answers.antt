use Rattle.line_laws.proofs.WholeLines.{lines_are_texts}
use Rattle.line_laws.proofs.lines_are_texts.Goals as goal

pub returns : goal.returns
returns c = lines_are_texts
