use Rattle.std.proofs.Common.{arith}
use Rattle.mvt_check.proofs.Adding.{answer_at, risks_on}
use Rattle.mvt_check.proofs.session.count_risks.Goals as goal

pub loop-n-preserved : goal.loop-n-preserved
loop-n-preserved c =
    let answers = c.args.answers.now in
    let a = c.index-answers-n.result in
    record {
      counted = risks_on answers c.loop-n.n a (answer_at answers c.loop-n.n a c.loop-n-test.true c.index-answers-n.is) c.loop-n.count c.is_risk.result
          c.one-count.result c.loop-n.invariant.counted c.is_risk.ensures c.one-count.ensures.number;
      few = omega (arith, c.loop-n.invariant.few, c.one-count.ensures.bound);
    }
