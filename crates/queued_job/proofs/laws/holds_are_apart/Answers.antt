use Rattle.queued_job.proofs.Wanted.{holding_leaves, releasing_leaves, releasing_leaves_none}
use Rattle.queued_job.proofs.laws.holds_are_apart.Goals as goal

pub returns : goal.returns
returns c = record { held = holding_leaves; gone = releasing_leaves_none; kept = releasing_leaves }
