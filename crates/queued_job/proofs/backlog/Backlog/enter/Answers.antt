use Rattle.std.proofs.Common.{◌<◌, ◌∷◌, ◌++◌, ◌∙◌, [], All, ap}
use Rattle.std.specs.BTreeMap.{values}
use Rattle.queued_job.proofs.Listings.{entered, entered_values}
use Rattle.queued_job.proofs.backlog.Backlog.enter.Goals as goal

pub invariant_of-self-2 : goal.invariant_of-self-2
invariant_of-self-2 c =
    let later : All (λ x. x.job < c.args.listing.job) (values c.self.inside.listings) = rw c.self.view_is c.requires.later in
    entered c.self.inside.listings c.self.invariant c.insert.new.self c.args.listing later c.in-Ok.ensures.entries c.in-Ok.ensures.ordered

pub returns-clause-ok : goal.returns-clause-ok
returns-clause-ok c =
    let later : All (λ x. x.job < c.args.listing.job) (values c.self.inside.listings) = rw c.self.view_is c.requires.later in
    entered_values c.self.inside.listings c.self.invariant c.insert.new.self c.args.listing later c.in-Ok.ensures.entries ∙ ap (λ xs. xs ++ c.args.listing ∷ []) c.self.view_is
