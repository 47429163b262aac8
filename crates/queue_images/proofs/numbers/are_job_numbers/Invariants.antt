use Rattle.queue_images.proofs.Numbered.{AreMet}
use Rattle.queue_images.proofs.numbers.are_job_numbers.Given as goal

abbrev pub invariant-loop-n : goal.invariant-loop-n
invariant-loop-n l = AreMet l.jobs l.n l.met

abbrev pub decreases-loop-n : goal.decreases-loop-n
decreases-loop-n l = l.n
