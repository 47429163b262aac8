use Rattle.std.proofs.Common.{◌≡◌, ◌++◌, drop, false}
use Rattle.deck_places.specs.Stands.{own_from}
use Rattle.deck_places.proofs.stands.own_of.Given as goal

abbrev pub invariant-loop-number : goal.invariant-loop-number
invariant-loop-number l = own_from false 0 l.statements ≡ l.own.items ++ own_from l.inside l.number (drop l.number l.statements)
