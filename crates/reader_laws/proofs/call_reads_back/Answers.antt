use Rattle.reader_laws.proofs.Statements.{call_is}
use Rattle.reader_laws.proofs.call_reads_back.Goals as goal

pub returns : goal.returns
returns c = call_is
