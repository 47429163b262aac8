use Rattle.std.proofs.Common.{◌≡◌, ◌++◌, drop, map}
use Rattle.deck_places.specs.Stands.{origin_of}
use Rattle.deck_places.proofs.stands.origins_of.Given as goal

abbrev pub invariant-loop-step : goal.invariant-loop-step
invariant-loop-step l = map origin_of l.steps ≡ l.origins.items ++ map origin_of (drop l.step-index l.steps)
