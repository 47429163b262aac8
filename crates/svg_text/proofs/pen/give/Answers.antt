use Rattle.std.proofs.Common.{arith}
use Rattle.svg_text.proofs.Given.{front_at, given_more, given_twice, still_within}
use Rattle.svg_text.proofs.pen.give.Goals as goal

pub loop-at-preserved : goal.loop-at-preserved
loop-at-preserved g c =
    let at = c.loop-at.at in
    let count = c.in-Ok.count in
    let text = c.args.text.now in
    let bound = c.in-Ok.ensures.bound in
    record {
      within = still_within at count text (omega arith) bound.1;
      given = rw (← given_more at count text) (given_twice _ _ _ _ _ c.loop-at.invariant.given c.in-Ok.ensures.bytes);
    }

pub returns-in-Err-clause-err : goal.returns-in-Err-clause-err
returns-in-Err-clause-err g c = front_at _ _ _ c.loop-at.at c.args.text.now c.loop-at.invariant.given c.in-Err.ensures.err
