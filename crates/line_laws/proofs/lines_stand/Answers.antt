use Rattle.line_laws.proofs.Standing.{lines_stand}
use Rattle.line_laws.proofs.lines_stand.Goals as goal

pub returns : goal.returns
returns c = lines_stand
