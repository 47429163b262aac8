use Rattle.std.proofs.Common.{◌∙◌, ◌<◌, ◌++◌, ◌∷◌, [], All, arith, ap}
use Rattle.std.specs.Map.{values_of}
use Rattle.queue_core.proofs.Numbered.{below_all, entered_last, none_at, values_last}
use Rattle.queue_core.proofs.Ranking.{entered, number_of, undone}
use Rattle.queue_core.proofs.queue.JobQueue.enter.Goals as goal

pub invariant_of-self-in_default-insert : goal.invariant_of-self-in_default-insert
invariant_of-self-in_default-insert c =
    undone c.self.inside.jobs c.insert-2.new.self c.self.inside.ranks c.insert.new.self c.remove.new.self c.self.inside.occupied c.args.queued c.self.invariant
    c.in_default-insert.ensures.err c.in_default-insert.ensures.absent
    (rw c.rank_of.ensures at c.in-Ok.ensures.updates)
    (rw c.rank_of-in_default-insert.ensures at c.remove.ensures.updates)

pub invariant_of-self-2 : goal.invariant_of-self-2
invariant_of-self-2 c =
    let later : All (λ x. x.job < c.args.queued.job) (values_of c.self.inside.jobs.entries) = rw c.self.view_is c.requires.later in
    let below = below_all number_of c.args.queued.job c.self.inside.jobs.entries later c.self.invariant.numbered in
    rw c.from.ensures
    (entered c.self.inside.jobs c.insert-2.new.self c.self.inside.ranks c.insert.new.self c.self.inside.occupied c.args.queued c.self.invariant
    (omega arith) (omega arith) (none_at c.self.inside.jobs c.args.queued.job below)
    (c.in-Ok-insert.ensures.entries ∙ entered_last c.self.inside.jobs.entries c.args.queued.job c.args.queued below)
    c.in-Ok-insert.ensures.ordered c.in-Ok-insert.ensures.updates (rw c.rank_of.ensures at c.in-Ok.ensures.updates))

pub returns-clause-ok : goal.returns-clause-ok
returns-clause-ok c =
    let later : All (λ x. x.job < c.args.queued.job) (values_of c.self.inside.jobs.entries) = rw c.self.view_is c.requires.later in
    let below = below_all number_of c.args.queued.job c.self.inside.jobs.entries later c.self.invariant.numbered in
    ap values_of (c.in-Ok-insert.ensures.entries ∙ entered_last c.self.inside.jobs.entries c.args.queued.job c.args.queued below)
    ∙ values_last c.self.inside.jobs.entries c.args.queued.job c.args.queued ∙ ap (λ l. l ++ c.args.queued ∷ []) c.self.view_is
