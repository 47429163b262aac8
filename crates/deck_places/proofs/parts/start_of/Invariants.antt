use Rattle.std.proofs.Common.{◌≡◌}
use Rattle.deck_places.specs.Parts.{start_of}
use Rattle.deck_places.proofs.parts.start_of.Given as goal

abbrev pub invariant-loop-m : goal.invariant-loop-m
invariant-loop-m l = l.start ≡ start_of l.fn.parts l.m
