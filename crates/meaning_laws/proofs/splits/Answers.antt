use Rattle.meaning_laws.proofs.Splitting.{run_splits}
use Rattle.meaning_laws.proofs.splits.Goals as goal

pub returns : goal.returns
returns c = run_splits
