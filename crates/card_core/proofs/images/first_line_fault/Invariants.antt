use Rattle.std.proofs.Common.{◌≡◌, drop}
use Rattle.card_core.specs.Cards.{first_line_fault}
use Rattle.card_core.proofs.images.first_line_fault.Given as goal

abbrev pub invariant-loop-line : goal.invariant-loop-line
invariant-loop-line l = first_line_fault l.lines ≡ first_line_fault (drop l.line-index l.lines)
