use Rattle.std.proofs.Common.{sym, ap, ◌∙◌, take}
use Rattle.std.specs.List.{flat_map}
use Rattle.operand_core.specs.Faults.{earlier, told}
use Rattle.operand_core.proofs.Told.{told_flat_map_more}
use Rattle.jcl_cards.proofs.rules.each_fault.Goals as goal

pub loop-keyword-preserved : goal.loop-keyword-preserved
loop-keyword-preserved g c =
    let faults = g.R.KeywordRule.faults c.args.rule.now in
    let keywords = c.args.keywords.now in
    let at = c.loop-keyword.keyword-index in
    c.earlier-fault.ensures
    ∙ ap (λ front. earlier front c.fault.result) c.loop-keyword.invariant
    ∙ ap (earlier (told (flat_map faults (take at keywords)))) (c.fault.ensures ∙ ap (λ keyword. told (faults keyword)) c.keyword-item.is)
    ∙ sym (told_flat_map_more faults keywords at c.keyword-item.result c.loop-keyword-test.true)
