use Rattle.std.proofs.Common.{◌≡◌, drop}
use Rattle.jcl_meaning.specs.InOrder.{first_of}
use Rattle.jcl_meaning.proofs.in_order.first_of.Given as goal

-- what is left decides
abbrev pub invariant-loop-said : goal.invariant-loop-said
invariant-loop-said g l = first_of g.T.OfDd.step_of g.T.OfDd.dd_of (drop l.said-index l.list) l.step l.dd ≡ first_of g.T.OfDd.step_of g.T.OfDd.dd_of l.list l.step l.dd
