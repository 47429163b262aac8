use Rattle.std.proofs.Common.{◌≡◌, drop}
use Rattle.deck_places.specs.Cards.{bad_from, bad_line}
use Rattle.deck_places.proofs.lines.bad_line.Given as goal

abbrev pub invariant-loop-n : goal.invariant-loop-n
invariant-loop-n l = bad_line l.lines ≡ bad_from l.n (drop l.n l.lines)
