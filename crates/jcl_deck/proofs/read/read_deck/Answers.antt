use Rattle.std.proofs.lemmas.Result.{err_from_is_err_and}
use Rattle.std.specs.Vec.Iter.{into_iter_items}
use Rattle.jcl_deck.specs.Places.{denoted}
use Rattle.jcl_deck.proofs.Decks.{deck_refused, deck_step}
use Rattle.jcl_deck.proofs.read.read_deck.Goals as goal

pub loop-statement-preserved : goal.loop-statement-preserved
loop-statement-preserved c =
    deck_step (denoted c.loop-statement.place) c.in-Some.statement (into_iter_items c.next.new.self) c.loop-statement.invariant c.in-Some.ensures.steps.0
    c.in_ok-take.ensures.moves

pub returns-in_err-take : goal.returns-in_err-take
returns-in_err-take c =
    deck_refused (denoted c.loop-statement.place) c.in-Some.statement (into_iter_items c.next.new.self) c.take.new.self
    c.loop-statement.invariant c.in-Some.ensures.steps.0 c.take.ensures.moves c.in_err-take.was
    (err_from_is_err_and c.from_residual.result c.from_residual.ensures.1)
