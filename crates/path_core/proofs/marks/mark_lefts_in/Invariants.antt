use Rattle.std.proofs.Common.{◌≡◌, ◌++◌, map, take}
use Rattle.jcl_meaning.specs.Agendas.{lefts_in}
use Rattle.path_core.specs.Marks.{is_at, place_of}
use Rattle.path_core.proofs.marks.mark_lefts_in.Given as goal

abbrev pub invariant-loop-i : goal.invariant-loop-i
invariant-loop-i l = l.marks ≡ l.initial.marks ++ map (is_at l.steps (place_of l.spot)) (lefts_in l.n 1 (take l.i l.dds))
