use Rattle.packed_core.specs.Placed.{HasNoMore}
use Rattle.packed_core.proofs.placed.lengthen.Given as goal

abbrev pub invariant-loop-i : goal.invariant-loop-i
invariant-loop-i g l = HasNoMore l.fn.list.items l.list.items
