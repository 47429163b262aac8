use Rattle.std.proofs.Common.{◌≡◌, drop}
use Rattle.deck_places.specs.Short.{short_from, short_of}
use Rattle.deck_places.proofs.short.short_of.Given as goal

abbrev pub invariant-loop-statement : goal.invariant-loop-statement
invariant-loop-statement l = short_of l.statements ≡ short_from l.short.items (drop l.statement-index l.statements)
