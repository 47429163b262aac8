use Rattle.std.proofs.Common.{None, take}
use Rattle.disp_core.specs.Courses.{fixed_by}
use Rattle.view_core.specs.Lefts.{LeavesAll}
use Rattle.view_core.proofs.leave.leave_all.Given as goal

abbrev pub invariant-loop-i : goal.invariant-loop-i
invariant-loop-i l = LeavesAll (fixed_by l.given) l.steps (take l.i l.lefts) l.fn.under None l.under
