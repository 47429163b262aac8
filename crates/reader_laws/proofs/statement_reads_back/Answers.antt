use Rattle.reader_laws.proofs.Laws.{statement_is}
use Rattle.reader_laws.proofs.statement_reads_back.Goals as goal

pub returns : goal.returns
returns c = statement_is
