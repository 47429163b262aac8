use Rattle.std.proofs.Common.{◌≡◌, drop}
use Rattle.lone_deck.specs.Framing.{refused_line}
use Rattle.lone_deck.proofs.refused_line.Given as goal

abbrev pub invariant-loop-n : goal.invariant-loop-n
invariant-loop-n l = refused_line l.statements ≡ refused_line (drop l.n l.statements)
