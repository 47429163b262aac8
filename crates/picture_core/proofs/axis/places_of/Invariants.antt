use Rattle.std.proofs.Common.{◌≡◌, ◌++◌, ◌∷◌, [], length}
use Rattle.picture_core.specs.Places.{AreInOrder}
use Rattle.picture_core.proofs.axis.places_of.Given as goal

abbrev pub invariant-loop-event : goal.invariant-loop-event
invariant-loop-event l = record { each : length l.places.items ≡ l.event; order : AreInOrder (l.places.items ++ l.place ∷ []) }
