use Rattle.queue_core.proofs.Selecting.{first_none, first_some, not_marked}
use Rattle.queue_core.proofs.queue.JobQueue.first.Goals as goal

pub returns-then-not-self-from-clause-none : goal.returns-then-not-self-from-clause-none
returns-then-not-self-from-clause-none c = rw (← c.self.view_is) (not_marked c.self.inside.jobs c.self.inside.ranks c.self.inside.occupied c.self.invariant c.args.class (rw (← c.from.ensures) c.if-not-self-from.true))

pub returns-clause-some : goal.returns-clause-some
returns-clause-some c = rw (← c.self.view_is) (first_some c.self.inside.jobs c.self.inside.ranks c.self.inside.occupied c.self.invariant c.args.class c.first_of.result c.first_of.ensures.some)

pub returns-clause-none : goal.returns-clause-none
returns-clause-none c = rw (← c.self.view_is) (first_none c.self.inside.jobs c.self.inside.ranks c.self.inside.occupied c.self.invariant c.args.class c.first_of.result c.first_of.ensures.none)
