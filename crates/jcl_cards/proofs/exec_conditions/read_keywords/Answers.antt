use Rattle.jcl_cards.proofs.Conditions.{reads_one_more}
use Rattle.jcl_cards.proofs.exec_conditions.read_keywords.Goals as goal

pub loop-keyword-preserved : goal.loop-keyword-preserved
loop-keyword-preserved c =
    let keyword = c.keyword-item.result in
    reads_one_more c.args.calls c.args.keywords.now c.loop-keyword.keyword-index keyword keyword c.loop-keyword.conditions c.read_keyword.new.conditions
    c.loop-keyword.fault c.in_ok-read_keyword.field-0 c.earlier-fault.result c.loop-keyword-test.true c.keyword-item.is c.loop-keyword.invariant
    c.in_ok-read_keyword.ensures c.earlier-fault.ensures
