use Rattle.queue_images.proofs.Waits.{IsGreatest}
use Rattle.queue_images.proofs.waiting.greatest.Given as goal

abbrev pub invariant-loop-n : goal.invariant-loop-n
invariant-loop-n l = IsGreatest l.jobs l.n l.last

abbrev pub decreases-loop-n : goal.decreases-loop-n
decreases-loop-n l = l.n
