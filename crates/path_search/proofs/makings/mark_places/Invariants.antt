use Rattle.std.proofs.Common.{take}
use Rattle.path_search.specs.Makings.{AreMarked}
use Rattle.path_search.proofs.makings.mark_places.Given as goal

abbrev pub invariant-loop-place : goal.invariant-loop-place
invariant-loop-place l = AreMarked (take l.place-index l.places) l.fn.rows.items l.rows.items
