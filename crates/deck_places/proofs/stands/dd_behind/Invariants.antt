use Rattle.std.proofs.Common.{◌≡◌, drop}
use Rattle.deck_places.specs.Stands.{dd_behind}
use Rattle.deck_places.proofs.stands.dd_behind.Given as goal

abbrev pub invariant-loop-statement : goal.invariant-loop-statement
invariant-loop-statement l = dd_behind l.fn.n l.own ≡ dd_behind l.left (drop l.statement-index l.own)
