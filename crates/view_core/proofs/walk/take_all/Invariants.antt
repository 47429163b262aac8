use Rattle.std.proofs.Common.{None, take}
use Rattle.disp_core.specs.Courses.{fixed_by}
use Rattle.view_core.specs.Walks.{TakesAll}
use Rattle.view_core.proofs.walk.take_all.Given as goal

abbrev pub invariant-loop-i : goal.invariant-loop-i
invariant-loop-i l = TakesAll (fixed_by l.given) l.n (take l.i l.dds) l.fn.under l.fn.made.items None l.under l.made.items
