use Rattle.std.proofs.Common.{◌≡◌, ℕ, false, List, Ok, ap, ◌∙◌, subst}
use Rattle.std.proofs.lemmas.Result.{err_from_is_err_and}
use Rattle.jcl_plan.specs.declared.fault.Cause.TheVariants.{P}
use Rattle.jcl_plan.specs.declared.fault.StatementFault.TheVariants.{ProcedureCallsProcedure}
use Rattle.operand_core.specs.Faults.{told, when, written_name_faults}
use Rattle.value_core.specs.Reads.{Gives, answer}
use Rattle.jcl_symbols.specs.Substitutions.{substituted}
use Rattle.jcl_cards.specs.ExecCards.{exec_card}
use Rattle.jcl_procs.specs.Calls.{calls}
use Rattle.jcl_procs.specs.Calling.{call_of, exec_placed, or_earliest}
use Rattle.jcl_procs.proofs.Called.{read_refused, read_whole}
use Rattle.jcl_procs.proofs.calls.read_exec.Goals as goal

pub returns-in_err-operand : goal.returns-in_err-operand
returns-in_err-operand c =
    let symbols = (call_of c.args.caller.now).symbols in
    let s = c.args.statement.now in
    let Reads : List ℕ → Type 0 = λ operand. Gives c.operand_with.result
    (or_earliest c.written_name_fault.result (answer (substituted symbols false operand))) in
    read_refused (substituted symbols false s.operand) (written_name_faults s.name) (exec_card s.name)
    (λ card. when (calls card) (P ProcedureCallsProcedure)) c.written_name_fault.result c.operand_with.result c.from_residual.result
    (c.written_name_fault.ensures ∙ ap (λ name. told (written_name_faults name)) c.as_slice-name.ensures)
    (subst Reads c.as_slice-operand.ensures c.operand_with.ensures) c.in_err-operand.was
    (err_from_is_err_and c.from_residual.result c.from_residual.ensures.1)

pub returns : goal.returns
returns c =
    let symbols = (call_of c.args.caller.now).symbols in
    let s = c.args.statement.now in
    let result = c.placed_exec.result in
    let Had : List ℕ → Type 0 = λ operand. or_earliest c.written_name_fault.result (answer (substituted symbols false operand)) ≡ Ok c.in_ok-operand.operand in
    let Named : List ℕ → Type 0 = λ name. Gives result (answer (exec_placed name c.as_slice.result.now)) in
    let Placed : List ℕ → Type 0 = λ operand. Gives result (answer (exec_placed s.name operand)) in
    read_whole (substituted symbols false s.operand) (written_name_faults s.name) (exec_card s.name)
    (λ card. when (calls card) (P ProcedureCallsProcedure)) c.written_name_fault.result result
    (subst Had c.as_slice-operand.ensures c.in_ok-operand.ensures)
    (subst Placed c.as_slice.ensures (subst Named c.as_slice-name.ensures c.placed_exec.ensures))
