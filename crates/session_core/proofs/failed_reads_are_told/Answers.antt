use Rattle.session_core.proofs.Cuts.{tells_cut}
use Rattle.session_core.proofs.failed_reads_are_told.Goals as goal

pub returns : goal.returns
returns c = tells_cut
