use Rattle.std.proofs.Common.{◌≡◌, length}
use Rattle.deck_places.specs.Stands.{named_behind}
use Rattle.deck_places.proofs.stands.named_behind.Given as goal

abbrev pub invariant-loop-first : goal.invariant-loop-first
invariant-loop-first l = named_behind l.name l.n l.fn.own ≡ named_behind l.name l.n l.rest

abbrev pub decreases-loop-first : goal.decreases-loop-first
decreases-loop-first l = length l.rest
