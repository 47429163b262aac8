use Rattle.std.proofs.Common.{Result, ◌++◌, map, sym, subst}
use Rattle.jcl_plan.specs.declared.fault.Cause.{Cause}
use Rattle.jcl_dds.specs.DdCards.{dd_card}
use Rattle.jcl_deck.specs.Decks.{Place, dd_place_faults, not_first}
use Rattle.jcl_deck.specs.Places.{Moves, denoted, with_dd}
use Rattle.jcl_deck.proofs.Taken.{taken_card, taken_refused}
use Rattle.jcl_deck.proofs.place.Place.take_dd.Goals as goal

pub returns-in-Ok-clause-moves : goal.returns-in-Ok-clause-moves
returns-in-Ok-clause-moves c =
    let place = denoted c.args.self.now in
    let s = c.args.statement in
    let P : Result Place Cause → Type 0 = λ moved. Moves c.add_placed.result c.add_placed.new.self moved in
    subst P
    (sym (taken_card s (λ name operand. dd_card name operand s.cards)
    (not_first place ++ dd_place_faults place.job_library (map (λ step. step.dds) place.steps) s) (with_dd place)
    c.as_slice.ensures c.as_slice-text.ensures c.dd_fault-fault.ensures c.unless_long-at.ensures c.in-Ok.ensures))
    c.add_placed.ensures.moves

pub returns-clause-moves : goal.returns-clause-moves
returns-clause-moves c =
    let place = denoted c.args.self.now in
    let s = c.args.statement in
    taken_refused s (λ name operand. dd_card name operand s.cards)
    (not_first place ++ dd_place_faults place.job_library (map (λ step. step.dds) place.steps) s) (with_dd place) c.in-Err.error
    c.error_with.result c.args.self.now
    c.as_slice.ensures c.as_slice-text.ensures c.dd_fault-fault.ensures c.unless_long-at.ensures c.in-Err.ensures c.error_with.ensures
