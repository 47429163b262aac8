use Rattle.std.proofs.Common.{sym, ◌∙◌}
use Rattle.operand_core.specs.Keywords.{is_long}
use Rattle.operand_core.specs.Operands.{operand_of}
use Rattle.jcl_cards.proofs.Answered.{long_refused}
use Rattle.jcl_dds.specs.DdCards.{dd_name_faults, dd_with}
use Rattle.jcl_dds.proofs.Put.{short_put}
use Rattle.jcl_dds.proofs.dd.read_dd.Goals as goal

pub returns-then-is_long : goal.returns-then-is_long
returns-then-is_long c =
    let name = c.args.name.now in
    let operand = c.args.operand.now in
    long_refused (is_long operand) (dd_name_faults name) (dd_with name (operand_of 1 operand) c.args.cards)
    (sym c.is_long.ensures ∙ c.if-is_long.true) c.dd_name_fault.ensures c.long_operand.ensures

pub returns : goal.returns
returns c =
    let name = c.args.name.now in
    let operand = c.args.operand.now in
    short_put (is_long operand) (dd_name_faults name) (dd_with name (operand_of 1 operand) c.args.cards)
    c.read_operand.result c.read_operand.new.card (sym c.is_long.ensures ∙ c.if-is_long.false)
    (c.read_operand.ensures (operand_of 1 operand) c.in_ok-parts.ensures)
