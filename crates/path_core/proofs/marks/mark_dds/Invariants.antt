use Rattle.std.proofs.Common.{◌≡◌, ◌++◌}
use Rattle.path_core.specs.Marks.{dd_marks, place_of}
use Rattle.path_core.proofs.marks.mark_dds.Given as goal

abbrev pub invariant-loop-i : goal.invariant-loop-i
invariant-loop-i l = l.marks ≡ l.initial.marks ++ dd_marks (place_of l.spot) l.n l.ended 1 l.i
