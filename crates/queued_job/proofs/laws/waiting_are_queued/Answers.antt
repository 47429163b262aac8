use Rattle.queued_job.proofs.Selected.{found, missing, removed}
use Rattle.queued_job.proofs.laws.waiting_are_queued.Goals as goal

pub returns : goal.returns
returns c = record { removed = removed; found = found; missing = missing }
