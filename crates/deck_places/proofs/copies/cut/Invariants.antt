use Rattle.std.proofs.Common.{◌≡◌, ◌++◌, drop}
use Rattle.deck_places.specs.Cuts.{cut, cut_from}
use Rattle.deck_places.proofs.copies.cut.Given as goal

abbrev pub invariant-loop-statement : goal.invariant-loop-statement
invariant-loop-statement l = cut l.fn.count l.statements ≡ l.kept.items ++ cut_from l.inside l.left (drop l.statement-index l.statements)
