use Rattle.queued_job.proofs.Listed.{last, one_listing, others, queued}
use Rattle.queued_job.proofs.laws.waiting_are_listed.Goals as goal

pub returns : goal.returns
returns c = record { queued = queued; last = last; others = others; one = one_listing }
