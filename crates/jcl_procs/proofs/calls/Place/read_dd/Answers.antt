use Rattle.std.proofs.Common.{◌≡◌, ℕ, true, List, Ok, ap, ◌∙◌, subst}
use Rattle.std.proofs.lemmas.Result.{err_from_is_err_and}
use Rattle.operand_core.specs.Faults.{told}
use Rattle.value_core.specs.Reads.{Gives, answer}
use Rattle.jcl_symbols.specs.Substitutions.{substituted}
use Rattle.jcl_dds.specs.DdCards.{dd_card, dd_name_faults}
use Rattle.jcl_procs.specs.Calls.{dd_faults}
use Rattle.jcl_procs.specs.Calling.{call_of, dd_placed, denoted, or_earliest}
use Rattle.jcl_procs.proofs.Called.{read_refused, read_whole}
use Rattle.jcl_procs.proofs.calls.Place.read_dd.Goals as goal

pub returns-in_err-operand : goal.returns-in_err-operand
returns-in_err-operand c =
    let symbols = (call_of c.args.caller.now).symbols in
    let s = c.args.statement.now in
    let Reads : List ℕ → Type 0 = λ operand. Gives c.operand_with.result
    (or_earliest c.dd_name_fault-name.result (answer (substituted symbols true operand))) in
    read_refused (substituted symbols true s.operand) (dd_name_faults s.name) (λ operand. dd_card s.name operand s.cards)
    (dd_faults (denoted c.args.self.now) s) c.dd_name_fault-name.result c.operand_with.result c.from_residual.result
    (c.dd_name_fault-name.ensures ∙ ap (λ name. told (dd_name_faults name)) c.as_slice.ensures)
    (subst Reads c.as_slice-2.ensures c.operand_with.ensures) c.in_err-operand.was
    (err_from_is_err_and c.from_residual.result c.from_residual.ensures.1)

pub returns : goal.returns
returns c =
    let symbols = (call_of c.args.caller.now).symbols in
    let place = denoted c.args.self.now in
    let s = c.args.statement.now in
    let result = c.placed_dd.result in
    let Had : List ℕ → Type 0 = λ operand. or_earliest c.dd_name_fault-name.result (answer (substituted symbols true operand)) ≡ Ok c.in_ok-operand.operand in
    let Placed : List ℕ → Type 0 = λ operand. Gives result (answer (dd_placed place s operand)) in
    read_whole (substituted symbols true s.operand) (dd_name_faults s.name) (λ operand. dd_card s.name operand s.cards)
    (dd_faults place s) c.dd_name_fault-name.result result
    (subst Had c.as_slice-2.ensures c.in_ok-operand.ensures)
    (subst Placed c.as_slice-3.ensures c.placed_dd.ensures)
