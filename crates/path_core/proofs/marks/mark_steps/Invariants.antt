use Rattle.std.proofs.Common.{◌≡◌, ◌++◌, take}
use Rattle.path_core.specs.Marks.{place_of, steps_marks}
use Rattle.path_core.proofs.marks.mark_steps.Given as goal

abbrev pub invariant-loop-before : goal.invariant-loop-before
invariant-loop-before l = l.marks ≡ l.initial.marks ++ steps_marks (place_of l.spot) 0 (take l.before l.steps)
