use Rattle.reader_laws.proofs.Lines.{short_read}
use Rattle.reader_laws.proofs.short_lines_are_filled.Goals as goal

pub returns : goal.returns
returns c = short_read
