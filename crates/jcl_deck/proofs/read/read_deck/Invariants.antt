use Rattle.std.proofs.Common.{◌≡◌}
use Rattle.std.specs.Vec.Iter.{into_iter_items}
use Rattle.jcl_deck.specs.Decks.{deck_from, deck_of}
use Rattle.jcl_deck.specs.Places.{denoted}
use Rattle.jcl_deck.proofs.read.read_deck.Given as goal

abbrev pub invariant-loop-statement : goal.invariant-loop-statement
invariant-loop-statement l = deck_of l.fn.statements.items ≡ deck_from (denoted l.place) (into_iter_items l.statement-iterator)
