use Rattle.reader_laws.proofs.Sessions.{session_is}
use Rattle.reader_laws.proofs.session_reads_back.Goals as goal

pub returns : goal.returns
returns c = session_is
