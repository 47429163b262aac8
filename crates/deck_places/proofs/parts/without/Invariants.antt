use Rattle.std.proofs.Common.{◌≡◌, take}
use Rattle.deck_places.proofs.parts.without.Given as goal

abbrev pub invariant-loop-part : goal.invariant-loop-part
invariant-loop-part l = l.left.items ≡ take l.part-index l.fn.parts
