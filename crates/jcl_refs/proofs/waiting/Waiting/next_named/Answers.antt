use Rattle.std.proofs.Common.{◌≡◌, Some, rules}
use Rattle.jcl_refs.proofs.WaitingDds.{next_is}
use Rattle.jcl_refs.proofs.waiting.Waiting.next_named.Goals as goal

pub returns-in-Some-first-clause-is : goal.returns-in-Some-first-clause-is
returns-in-Some-first-clause-is c =
    let group = c.in-Some.name-1-given.0.0 in
    let first : group.first ≡ Some c.in-Some-first.dd = search rules in
    let name : group.name ≡ group.name = λ i. group.name in
    next_is c.loop-name.self c.pop.new.self group c.in-Some-first.dd group.name c.pop-in-Some-first.result c.pop-in-Some-first.new.self
    c.loop-name.invariant.is c.loop-name.invariant.none c.in-Some.ensures.items first name c.pop-in-Some-first.ensures.aligned
    c.pop-in-Some-first.ensures.none
