use Rattle.std.proofs.Common.{◌≡◌, ◌++◌, drop, map}
use Rattle.deck_places.proofs.stands.names_of.Given as goal

abbrev pub invariant-loop-dd : goal.invariant-loop-dd
invariant-loop-dd l = map (λ dd. dd.name) l.dds ≡ l.names ++ map (λ dd. dd.name) (drop l.dd-index l.dds)
