use Rattle.mount_core.proofs.FirstPlaces.{its_first, none_in_range, none_of_job}
use Rattle.mount_core.proofs.lists.first_for.Goals as goal

pub returns-in_err-place-clause-none : goal.returns-in_err-place-clause-none
returns-in_err-place-clause-none c = rw c.from_residual.ensures (none_in_range c.args.lists.now c.args.job c.range.result (c.range.ensures.in_range tt) c.in_err-place.ensures.steps.0)

pub returns-then-place-job-clause-none : goal.returns-then-place-job-clause-none
returns-then-place-job-clause-none c =
    none_of_job c.args.lists.now c.args.job c.range.result (c.range.ensures.in_range tt) (c.in_ok-place.place.now, c.in_ok-place.field-0-1.now) c.next.new.self
    c.in_ok-place.ensures.steps c.if-place-job.true

pub returns-clause-some : goal.returns-clause-some
returns-clause-some c =
    its_first c.args.lists.now c.args.job c.range.result (c.range.ensures.in_range tt) (c.in_ok-place.place.now, c.in_ok-place.field-0-1.now) c.next.new.self
    c.in_ok-place.ensures.steps c.if-place-job.false
