use Rattle.std.proofs.Common.{◌∙◌, ◌==◌, ap}
use Rattle.std.specs.List.{list_any}
use Rattle.queued_job.specs.declared.backlog.Listing.{Listing}
use Rattle.queued_job.proofs.Listings.{has_listing}
use Rattle.queued_job.proofs.backlog.Backlog.has.Goals as goal

pub returns : goal.returns
returns c =
    c.contains_key.ensures ∙ (has_listing c.self.inside.listings c.self.invariant c.args.job ∙ ap (list_any (λ (x : Listing). x.job == c.args.job)) c.self.view_is)
