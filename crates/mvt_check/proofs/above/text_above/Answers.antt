use Rattle.mvt_check.specs.Brief.{lines_of}
use Rattle.mvt_check.specs.Above.{lines_above}
use Rattle.mvt_check.proofs.Findings.{above_more}
use Rattle.mvt_check.proofs.above.text_above.Goals as goal

pub loop-line-preserved : goal.loop-line-preserved
loop-line-preserved c =
    above_more c.as_slice-line-items.result.now c.loop-line.line-index _ c.loop-line.told.items c.push_above.new.text.items
    (lines_above (lines_of c.args.own.now)) c.loop-line-test.true c.in_ok-push_above.ensures c.loop-line.invariant
