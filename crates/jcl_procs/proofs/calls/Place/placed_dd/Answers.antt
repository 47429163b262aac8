use Rattle.std.proofs.Common.{ℕ, List, ap, ◌∙◌, subst}
use Rattle.operand_core.specs.Faults.{told}
use Rattle.value_core.specs.Reads.{Gives, answer}
use Rattle.jcl_dds.specs.DdCards.{dd_card}
use Rattle.jcl_procs.specs.Calls.{dd_faults}
use Rattle.jcl_procs.specs.Calling.{dd_faults_with, denoted}
use Rattle.jcl_procs.proofs.Called.{dd_faults_are, placed_is}
use Rattle.jcl_procs.proofs.calls.Place.placed_dd.Goals as goal

pub returns : goal.returns
returns c =
    let place = denoted c.args.self.now in
    let s = c.args.statement.now in
    let operand = c.args.operand.now in
    let r = dd_card s.name operand s.cards in
    let Named : List ℕ → Type 0 = λ name. Gives c.dd_card-card.result (answer (dd_card name operand c.in_ok-cards.cards)) in
    let With : _ → Type 0 = λ cards. Gives c.dd_card-card.result (answer (dd_card s.name operand cards)) in
    let gives = subst With c.in_ok-cards.ensures (subst Named c.as_slice.ensures c.dd_card-card.ensures) in
    placed_is r (dd_faults place s r.value) c.dd_card-card.result c.with_fault.result
    (c.dd_fault.ensures
    ∙ ap (λ found. told (dd_faults_with found place s)) (c.in_ok-has_data.ensures s.name s.cards gives)
    ∙ dd_faults_are place s operand)
    gives c.with_fault.ensures
