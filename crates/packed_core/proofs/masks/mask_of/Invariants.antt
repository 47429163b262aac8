use Rattle.packed_core.proofs.TestBits.{ArePart}
use Rattle.packed_core.proofs.masks.mask_of.Given as goal

abbrev pub invariant-loop-i : goal.invariant-loop-i
invariant-loop-i l = ArePart l.n l.tests l.room l.code l.i l.mask.items
