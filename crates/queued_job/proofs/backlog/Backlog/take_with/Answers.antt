use Rattle.std.proofs.Common.{◌∙◌, ap}
use Rattle.std.specs.Prelude.{filter}
use Rattle.queue_core.proofs.Numbered.{other_than}
use Rattle.queued_job.proofs.Listings.{entries_left, is_taken, number_of, taken, taken_values}
use Rattle.queued_job.proofs.backlog.Backlog.take_with.Goals as goal

pub invariant_of-self-2 : goal.invariant_of-self-2
invariant_of-self-2 c =
    taken c.self.inside.listings c.self.invariant c.remove-listing.new.self c.args.job
    (c.remove-listing.ensures.entries ∙ entries_left c.self.inside.listings c.self.invariant c.args.job c.args.line c.tell.new.listings c.in_ok-tell.ensures.ok)
    c.remove-listing.ensures.ordered

pub returns-clause-ok : goal.returns-clause-ok
returns-clause-ok c = rw (← c.self.view_is)
    (is_taken c.self.inside.listings c.self.invariant c.args.job c.args.line c.tell.new.listings c.in_ok-tell.ensures.ok c.remove-listing.result c.remove-listing.ensures.value)

pub returns-clause-left : goal.returns-clause-left
returns-clause-left c =
    taken_values c.self.inside.listings c.self.invariant c.remove-listing.new.self c.args.job
    (c.remove-listing.ensures.entries ∙ entries_left c.self.inside.listings c.self.invariant c.args.job c.args.line c.tell.new.listings c.in_ok-tell.ensures.ok)
    ∙ ap (filter (other_than number_of c.args.job)) c.self.view_is
