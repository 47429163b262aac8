use Rattle.std.proofs.Common.{◌∙◌, ap, arith, sym}
use Rattle.std.specs.Prelude.{filter}
use Rattle.std.specs.Map.{values_of}
use Rattle.queue_core.specs.Ranks.{IsVacant}
use Rattle.queue_core.proofs.Numbered.{other_than, without_job}
use Rattle.queue_core.proofs.Ranking.{bounded_less, last_taken_out, none_is, not_vacant, number_of, taken_out}
use Rattle.queue_core.proofs.Selecting.{job_found, no_job}
use Rattle.queue_core.proofs.queue.JobQueue.remove.Goals as goal

pub returns-in_err-queued-clause-left : goal.returns-in_err-queued-clause-left
returns-in_err-queued-clause-left c =
    ap values_of c.in_err-queued.ensures.entries ∙ without_job number_of c.args.job c.self.inside.jobs.entries c.self.invariant.ordered c.self.invariant.numbered
    ∙ ap (filter (other_than number_of c.args.job)) c.self.view_is

pub first_of-requires : goal.first_of-requires
first_of-requires c = bounded_less c.self.inside.jobs c.remove.new.self c.self.inside.ranks c.remove-2.new.self c.self.inside.occupied c.args.job c.in_ok-queued.queued
    c.self.invariant.bounded (rw c.rank_of.ensures at c.remove-2.ensures.updates)

pub invariant_of-self-then-is_none : goal.invariant_of-self-then-is_none
invariant_of-self-then-is_none c =
    rw c.from.ensures
    (last_taken_out c.self.inside.jobs c.remove.new.self c.self.inside.ranks c.remove-2.new.self c.self.inside.occupied c.args.job c.in_ok-queued.queued c.self.invariant
    (sym c.in_ok-queued.ensures.value) c.in_ok-queued.ensures.entries c.in_ok-queued.ensures.ordered c.in_ok-queued.ensures.updates (rw c.rank_of.ensures at c.remove-2.ensures.updates)
    (omega arith) (none_is (IsVacant c.remove-2.new.self c.in_ok-queued.queued.class) c.first_of.result c.if-is_none.ensures c.first_of.ensures.none))

pub invariant_of-self-else-is_none : goal.invariant_of-self-else-is_none
invariant_of-self-else-is_none c =
    taken_out c.self.inside.jobs c.remove.new.self c.self.inside.ranks c.remove-2.new.self c.self.inside.occupied c.args.job c.in_ok-queued.queued c.self.invariant
    (sym c.in_ok-queued.ensures.value) c.in_ok-queued.ensures.entries c.in_ok-queued.ensures.ordered c.in_ok-queued.ensures.updates (rw c.rank_of.ensures at c.remove-2.ensures.updates)
    (not_vacant c.remove-2.new.self c.in_ok-queued.queued.class c.first_of.result c.if-is_none.ensures c.first_of.ensures.some)

pub returns-then-is_none-clause-left : goal.returns-then-is_none-clause-left
returns-then-is_none-clause-left c =
    ap values_of c.in_ok-queued.ensures.entries ∙ without_job number_of c.args.job c.self.inside.jobs.entries c.self.invariant.ordered c.self.invariant.numbered
    ∙ ap (filter (other_than number_of c.args.job)) c.self.view_is

pub returns-else-is_none-clause-left : goal.returns-else-is_none-clause-left
returns-else-is_none-clause-left c =
    ap values_of c.in_ok-queued.ensures.entries ∙ without_job number_of c.args.job c.self.inside.jobs.entries c.self.invariant.ordered c.self.invariant.numbered
    ∙ ap (filter (other_than number_of c.args.job)) c.self.view_is

pub returns-in_err-queued-clause-none : goal.returns-in_err-queued-clause-none
returns-in_err-queued-clause-none c = rw (c.from_residual.ensures, ← c.self.view_is)
    (no_job c.self.inside.jobs c.self.inside.ranks c.self.inside.occupied c.self.invariant c.args.job (sym c.in_err-queued.ensures.value))

pub returns-then-is_none-clause-some : goal.returns-then-is_none-clause-some
returns-then-is_none-clause-some c = rw (← c.self.view_is)
    (job_found c.self.inside.jobs c.self.inside.ranks c.self.inside.occupied c.self.invariant c.args.job c.in_ok-queued.queued (sym c.in_ok-queued.ensures.value))

pub returns-else-is_none-clause-some : goal.returns-else-is_none-clause-some
returns-else-is_none-clause-some c = rw (← c.self.view_is)
    (job_found c.self.inside.jobs c.self.inside.ranks c.self.inside.occupied c.self.invariant c.args.job c.in_ok-queued.queued (sym c.in_ok-queued.ensures.value))
