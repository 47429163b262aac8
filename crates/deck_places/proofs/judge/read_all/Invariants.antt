use Rattle.std.proofs.Common.{◌≡◌, drop}
use Rattle.jcl_deck.specs.Decks.{start}
use Rattle.jcl_deck.specs.Places.{denoted}
use Rattle.deck_places.specs.Statements.{read_from}
use Rattle.deck_places.proofs.judge.read_all.Given as goal

abbrev pub invariant-loop-k : goal.invariant-loop-k
invariant-loop-k l = read_from 0 start l.fn.statements ≡ read_from l.k (denoted l.place) (drop l.k l.fn.statements)
