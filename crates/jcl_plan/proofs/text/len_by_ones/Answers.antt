use Rattle.std.proofs.Common.{sym, ◌∙◌, arith}
use Rattle.jcl_plan.proofs.Trims.{trimmed-before, trimmed-front}
use Rattle.jcl_plan.proofs.text.len_by_ones.Goals as goal

pub loop-len-preserved : goal.loop-len-preserved
loop-len-preserved c = record {
  within = omega arith;
  same = c.loop-len.invariant.same ∙ trimmed-before c.args.text.now c.loop-len.len c.loop-len-test.true c.loop-len.invariant.within c.if-text-len-eq32.true;
}

pub returns-else-text-len-eq32-clause-trimmed : goal.returns-else-text-len-eq32-clause-trimmed
returns-else-text-len-eq32-clause-trimmed c =
    sym (c.loop-len.invariant.same ∙ trimmed-front c.args.text.now c.loop-len.len c.loop-len-test.true c.loop-len.invariant.within c.if-text-len-eq32.false)
