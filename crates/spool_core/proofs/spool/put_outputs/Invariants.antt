use Rattle.std.proofs.Common.{◌≡◌, ℕ, List, ◌++◌, filter, length, map, vec_capacity}
use Rattle.std.specs.Vec.Iter.{into_iter_items}
use Rattle.machine_meaning.specs.Spools.{has_lines, output_set}
use Rattle.spool_core.specs.Places.{AreStarts, HasRoom, Stand, filled_places, sets_at}
use Rattle.spool_core.proofs.spool.put_outputs.Given as goal

abbrev pub invariant-loop-output : goal.invariant-loop-output
invariant-loop-output l =
    Stand l.sets (filled_places l.places.items) ×
    ((starts : List ℕ) → AreStarts starts l.fn.places.items → AreStarts starts l.places.items) ×
    (sets_at l.sets (filled_places l.places.items) ++ filter has_lines (map (output_set l.job) (into_iter_items l.output-iterator)) ≡
    sets_at l.fn.sets (filled_places l.fn.places.items) ++ filter has_lines (map (output_set l.job) l.fn.outputs)) ×
    HasRoom l.sets (length l.places.items) (vec_capacity l.places) (length (into_iter_items l.output-iterator))
