use Rattle.statement_laws.proofs.Merging.{merged_keeps_name}
use Rattle.statement_laws.proofs.merged_keeps_name.Goals as goal

pub returns : goal.returns
returns c = merged_keeps_name
