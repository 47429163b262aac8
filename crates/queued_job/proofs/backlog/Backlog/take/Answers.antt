use Rattle.std.proofs.Common.{◌∙◌, ap}
use Rattle.std.specs.Prelude.{filter}
use Rattle.queue_core.proofs.Numbered.{other_than}
use Rattle.queued_job.proofs.Listings.{number_of, of_job, of_none, taken, taken_values}
use Rattle.queued_job.proofs.backlog.Backlog.take.Goals as goal

pub invariant_of-self : goal.invariant_of-self
invariant_of-self c = taken c.self.inside.listings c.self.invariant c.remove.new.self c.args.job c.remove.ensures.entries c.remove.ensures.ordered

pub returns-clause-left : goal.returns-clause-left
returns-clause-left c =
    taken_values c.self.inside.listings c.self.invariant c.remove.new.self c.args.job c.remove.ensures.entries ∙ ap (filter (other_than number_of c.args.job)) c.self.view_is

pub returns-clause-some : goal.returns-clause-some
returns-clause-some c = rw (c.remove.ensures.value, ← c.self.view_is) (of_job c.self.inside.listings c.self.invariant c.args.job)

pub returns-clause-none : goal.returns-clause-none
returns-clause-none c = rw (c.remove.ensures.value, ← c.self.view_is) (of_none c.self.inside.listings c.self.invariant c.args.job)
