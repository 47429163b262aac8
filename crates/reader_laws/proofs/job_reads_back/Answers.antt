use Rattle.reader_laws.proofs.Statements.{job_is}
use Rattle.reader_laws.proofs.job_reads_back.Goals as goal

pub returns : goal.returns
returns c = job_is
