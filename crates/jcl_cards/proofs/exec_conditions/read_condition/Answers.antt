use Rattle.std.proofs.Common.{sym, ap, ◌∙◌}
use Rattle.operand_core.specs.Faults.{told}
use Rattle.value_core.specs.Reads.{answer}
use Rattle.jcl_cards.specs.ExecCards.{condition_of, step_faults}
use Rattle.jcl_cards.proofs.Conditions.{refused_condition}
use Rattle.jcl_cards.proofs.exec_conditions.read_condition.Goals as goal

pub returns-in-Err : goal.returns-in-Err
returns-in-Err c =
    refused_condition c.args.keyword.now c.args.conditions.now c.step_fault-names.result c.earlier.result c.in-Err.fault
    (c.step_fault-names.ensures ∙ ap (λ key. told (step_faults key)) c.key-key.ensures)
    (sym c.in-Err.is ∙ c.condition_of.ensures ∙ ap (λ value. answer (condition_of value)) c.value.ensures)
    c.earlier.ensures
