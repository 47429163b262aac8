use Rattle.std.proofs.Common.{take}
use Rattle.std.specs.Prelude.{All}
use Rattle.packed_core.specs.Classes.{LooksAlike}
use Rattle.packed_core.proofs.masks.look_alike.Given as goal

abbrev pub invariant-loop-test : goal.invariant-loop-test
invariant-loop-test l = All (LooksAlike l.n) (take l.test-index l.tests)
