use Rattle.case_laws.proofs.Lines.{same_lines}
use Rattle.case_laws.proofs.lines_are_determined.Goals as goal

pub returns : goal.returns
returns c = same_lines
