use Rattle.std.proofs.Common.{◌≡◌, ◌++◌, map, take}
use Rattle.card_core.specs.Cards.{filled}
use Rattle.card_core.proofs.images.CardImages.push_filled.Given as goal

abbrev pub invariant-loop-line : goal.invariant-loop-line
invariant-loop-line l = l.out.items ≡ l.fn.out.items ++ map filled (take l.line-index l.lines)
