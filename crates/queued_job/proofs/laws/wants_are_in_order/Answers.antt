use Rattle.queued_job.proofs.Wanted.{wants_in_order}
use Rattle.queued_job.proofs.laws.wants_are_in_order.Goals as goal

pub returns : goal.returns
returns c = wants_in_order
