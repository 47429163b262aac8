use Rattle.std.proofs.Common.{ap, ◌∙◌}
use Rattle.jcl_plan.specs.declared.fault.Cause.TheVariants.{P}
use Rattle.jcl_plan.specs.declared.fault.StatementFault.TheVariants.{ProcedureCallsProcedure}
use Rattle.operand_core.specs.Faults.{told, when}
use Rattle.jcl_cards.specs.ExecCards.{exec_card}
use Rattle.jcl_procs.specs.Calls.{calls}
use Rattle.jcl_procs.proofs.Called.{placed_is}
use Rattle.jcl_procs.proofs.calls.placed_exec.Goals as goal

pub returns : goal.returns
returns c =
    let r = exec_card c.args.name.now c.args.operand.now in
    placed_is r (when (calls r.value) (P ProcedureCallsProcedure)) c.exec_card-card.result c.with_fault.result
    (c.when-fault.ensures
    ∙ ap (λ called. told (when called (P ProcedureCallsProcedure))) (c.in_ok-calls.ensures c.args.name.now c.exec_card-card.ensures))
    c.exec_card-card.ensures c.with_fault.ensures
