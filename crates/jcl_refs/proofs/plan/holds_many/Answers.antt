use Rattle.jcl_refs.proofs.Asked.{holds_few}
use Rattle.jcl_refs.proofs.plan.holds_many.Goals as goal

pub returns-then-asks_for_few : goal.returns-then-asks_for_few
returns-then-asks_for_few c = holds_few c.args.plan.now (c.asks_for_few.ensures c.if-asks_for_few.true)
