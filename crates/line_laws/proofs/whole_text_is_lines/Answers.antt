use Rattle.line_laws.proofs.WholeLines.{whole_text_is_lines}
use Rattle.line_laws.proofs.whole_text_is_lines.Goals as goal

pub returns : goal.returns
returns c = whole_text_is_lines
