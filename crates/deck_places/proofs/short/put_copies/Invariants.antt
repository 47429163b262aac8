use Rattle.std.proofs.Common.{◌≡◌, ◌++◌, take}
use Rattle.deck_places.proofs.short.put_copies.Given as goal

abbrev pub invariant-loop-statement : goal.invariant-loop-statement
invariant-loop-statement l = l.kept.items ≡ l.initial.kept.items ++ take l.statement-index l.statements
