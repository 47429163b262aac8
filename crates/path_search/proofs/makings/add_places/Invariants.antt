use Rattle.path_search.proofs.Rising.{AreRowsUpTo}
use Rattle.path_search.proofs.makings.add_places.Given as goal

abbrev pub invariant-loop-at : goal.invariant-loop-at
invariant-loop-at l = AreRowsUpTo l.volumes l.step l.rows l.at l.fn.places.items l.places.items
