use Rattle.std.proofs.Common.{◌≡◌, ◌++◌, map, length, take}
use Rattle.jcl_meaning.specs.Agendas.{lefts_from}
use Rattle.path_core.specs.Marks.{is_at, place_of}
use Rattle.path_core.proofs.marks.mark_lefts.Given as goal

abbrev pub invariant-loop-i : goal.invariant-loop-i
invariant-loop-i l = l.marks ≡ l.initial.marks ++ map (is_at (length l.steps) (place_of l.spot)) (lefts_from 1 (take l.i l.steps))
