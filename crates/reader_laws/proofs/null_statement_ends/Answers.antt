use Rattle.reader_laws.proofs.Laws.{ended_is}
use Rattle.reader_laws.proofs.null_statement_ends.Goals as goal

pub returns : goal.returns
returns c = ended_is
