use Rattle.std.proofs.Common.{Ok, Result, sym, ap, ◌∙◌}
use Rattle.std.proofs.lemmas.Result.{err_from_is_err_and}
use Rattle.jcl_plan.specs.declared.fault.Cause.{Cause}
use Rattle.jcl_cards.specs.ExecCards.{exec_card}
use Rattle.jcl_deck.specs.Decks.{Place, not_first}
use Rattle.jcl_deck.specs.Places.{denoted, with_step}
use Rattle.jcl_deck.proofs.Taken.{taken_err, taken_ok}
use Rattle.jcl_deck.proofs.place.Place.take_exec.Goals as goal

pub returns-in_err-exec-clause-moves : goal.returns-in_err-exec-clause-moves
returns-in_err-exec-clause-moves c =
    let place = denoted c.args.self.now in
    taken_err c.args.statement.now exec_card (not_first place) (with_step place) c.exec_card-card.result c.at_place.result c.args.self.now
    c.as_slice.ensures c.as_slice-operand.ensures c.not_first.ensures
    c.exec_card-card.ensures c.at_place.ensures c.in_err-exec.was (err_from_is_err_and c.from_residual.result c.from_residual.ensures.1)

pub returns-clause-moves : goal.returns-clause-moves
returns-clause-moves c =
    let place = denoted c.args.self.now in
    let ok : Place → Result Place Cause = λ p. Ok p in
    taken_ok c.args.statement.now exec_card (not_first place) (with_step place) c.exec_card-card.result
    c.as_slice.ensures c.as_slice-operand.ensures c.not_first.ensures
    c.exec_card-card.ensures c.in_ok-exec.ensures
    ∙ ap ok (sym c.in_ok-add_step.ensures.ok)
