use Rattle.jcl_procs.specs.Calling.{call_of}
use Rattle.deck_places.proofs.Refused.{first_of_none, first_of_other}
use Rattle.deck_places.proofs.called.first_refused.Goals as goal

pub returns-in_default : goal.returns-in_default
returns-in_default c =
    first_of_none (call_of c.args.caller.now) c.args.statements.now c.args.cause (rw c.in_default.is at c.in_ok-refusal.ensures)

pub returns-else-is_same : goal.returns-else-is_same
returns-else-is_same c =
    let it = rw c.in-Some.is at c.in_ok-refusal.ensures in
    first_of_other (call_of c.args.caller.now) c.args.statements.now c.in-Some.refusal.cause c.args.cause c.in-Some.refusal.statement it.0
    (c.is_same.ensures.other c.if-is_same.false)
