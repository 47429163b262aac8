use Rattle.path_search.proofs.Rising.{IsRowUpTo}
use Rattle.path_search.proofs.makings.add_row.Given as goal

abbrev pub invariant-loop-at : goal.invariant-loop-at
invariant-loop-at l = IsRowUpTo l.volumes l.step l.dd l.row l.at l.fn.places.items l.places.items
