use Rattle.std.proofs.Common.{subst}
use Rattle.queue_core.specs.Ranks.{IsLeast}
use Rattle.queue_core.proofs.Selecting.{is_least, none_in_range, none_of_class}
use Rattle.queue_core.proofs.queue.first_of.Goals as goal

pub returns-in_err-rank-clause-none : goal.returns-in_err-rank-clause-none
returns-in_err-rank-clause-none c = rw c.from_residual.ensures (none_in_range c.args.ranks.now c.args.class c.range.result (c.range.ensures.in_range tt) c.requires c.in_err-rank.ensures.steps.0)

pub returns-then-rank-class-clause-none : goal.returns-then-rank-class-clause-none
returns-then-rank-class-clause-none c =
    none_of_class c.args.ranks.now c.args.class c.range.result (c.range.ensures.in_range tt) c.requires c.in_ok-rank.rank.now c.next.new.self c.in_ok-rank.ensures.steps c.if-rank-class.true

pub returns-clause-some : goal.returns-clause-some
returns-clause-some c =
    subst (λ class. IsLeast c.args.ranks.now c.args.class (record { job = c.in_ok-rank.rank.now.job; jct = c.in_ok-rank.rank.now.jct; class = class; priority = c.in_ok-rank.rank.now.priority.0 })) c.if-rank-class.false
    (is_least c.args.ranks.now c.args.class c.range.result (c.range.ensures.in_range tt) c.requires c.in_ok-rank.rank.now c.next.new.self c.in_ok-rank.ensures.steps c.if-rank-class.false)
