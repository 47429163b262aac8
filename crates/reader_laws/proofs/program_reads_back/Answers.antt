use Rattle.reader_laws.proofs.Statements.{program_is}
use Rattle.reader_laws.proofs.program_reads_back.Goals as goal

pub returns : goal.returns
returns c = program_is
