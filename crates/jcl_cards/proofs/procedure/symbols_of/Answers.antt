use Rattle.std.proofs.Common.{List, ap, ◌∙◌}
use Rattle.jcl_plan.specs.declared.fault.Cause.{Cause}
use Rattle.operand_core.specs.Faults.{told}
use Rattle.operand_core.specs.Operands.{Keyword}
use Rattle.operand_core.proofs.Keys.{one_has_none}
use Rattle.jcl_cards.specs.Keywords.{symbol_faults}
use Rattle.jcl_cards.proofs.procedure.symbols_of.Goals as goal

pub symbol_of-requires : goal.symbol_of-requires
symbol_of-requires c =
    let faults : Keyword → List Cause = λ k. symbol_faults k.key in
    let none = one_has_none faults c.args.keywords.now c.loop-keyword.keyword-index c.keyword-item.result c.requires c.loop-keyword-test.true in
    ap told (ap faults c.keyword-item.is ∙ none)
