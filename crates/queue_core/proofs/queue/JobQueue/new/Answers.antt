use Rattle.queue_core.proofs.Ranking.{nothing_ranked}
use Rattle.queue_core.proofs.queue.JobQueue.new.Goals as goal

pub invariant_of-result : goal.invariant_of-result
invariant_of-result c = nothing_ranked c.new.result c.new-2.result c.new.ensures.empty c.new-2.ensures.empty c.new.ensures.ordered
