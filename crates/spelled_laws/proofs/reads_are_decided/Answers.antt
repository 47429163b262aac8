use Rattle.spelled_laws.proofs.Decided.{reads_are_decided}
use Rattle.spelled_laws.proofs.reads_are_decided.Goals as goal

pub returns : goal.returns
returns c = reads_are_decided c.sameness_is_kept.ensures
