use Rattle.std.proofs.Common.{None, Ok, Result, true, cond, sym, ap, ◌∙◌}
use Rattle.std.proofs.lemmas.Result.{err_from_is_err_and}
use Rattle.jcl_plan.specs.declared.fault.Cause.{Cause}
use Rattle.operand_core.specs.Keywords.{is_long}
use Rattle.jcl_cards.specs.ProcedureCards.{procedure_card}
use Rattle.jcl_deck.specs.Decks.{Place, procedure_with}
use Rattle.jcl_deck.specs.Places.{denoted, procedure_place_faults, with_procedure}
use Rattle.jcl_deck.proofs.Named.{named}
use Rattle.jcl_deck.proofs.Taken.{taken_err, taken_ok}
use Rattle.jcl_deck.proofs.place.Place.take_proc.Goals as goal

pub returns-in_err-card-clause-moves : goal.returns-in_err-card-clause-moves
returns-in_err-card-clause-moves c =
    let place = denoted c.args.self.now in
    taken_err c.args.statement.now (procedure_card true) (procedure_place_faults place) (λ card. with_procedure place (procedure_with card))
    c.procedure_card-card.result c.at_place.result c.args.self.now
    c.as_slice.ensures c.as_slice-operand.ensures c.procedure_fault.ensures
    c.procedure_card-card.ensures c.at_place.ensures c.in_err-card.was (err_from_is_err_and c.from_residual.result c.from_residual.ensures.1)

pub procedure_with-requires : goal.procedure_with-requires
procedure_with-requires c =
    named c.as_slice.result.now c.as_slice-operand.result.now (cond (is_long c.as_slice-operand.result.now) None c.procedure_fault.result)
    c.procedure_card-card.result c.in_ok-card.card c.procedure_card-card.ensures c.in_ok-card.ensures

pub returns-clause-moves : goal.returns-clause-moves
returns-clause-moves c =
    let place = denoted c.args.self.now in
    let ok : Place → Result Place Cause = λ p. Ok p in
    taken_ok c.args.statement.now (procedure_card true) (procedure_place_faults place) (λ card. with_procedure place (procedure_with card))
    c.procedure_card-card.result
    c.as_slice.ensures c.as_slice-operand.ensures c.procedure_fault.ensures
    c.procedure_card-card.ensures c.in_ok-card.ensures
    ∙ ap (λ p. ok (with_procedure place p)) (sym c.procedure_with.ensures)
    ∙ ap ok (sym c.in_ok-add_procedure.ensures.ok)
