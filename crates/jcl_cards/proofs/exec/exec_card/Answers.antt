use Rattle.std.proofs.Common.{sym, ◌∙◌}
use Rattle.operand_core.specs.Faults.{written_name_faults}
use Rattle.operand_core.specs.Keywords.{is_long}
use Rattle.operand_core.specs.Operands.{operand_of}
use Rattle.jcl_cards.specs.ExecCards.{exec_with}
use Rattle.jcl_cards.proofs.Answered.{long_refused}
use Rattle.jcl_cards.proofs.exec.exec_card.Goals as goal

pub returns-then-is_long : goal.returns-then-is_long
returns-then-is_long c =
    let name = c.args.name.now in
    let operand = c.args.operand.now in
    long_refused (is_long operand) (written_name_faults name) (exec_with name (operand_of 1 operand))
    (sym c.is_long.ensures ∙ c.if-is_long.true) c.written_name_fault.ensures c.long_operand.ensures
