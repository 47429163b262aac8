use Rattle.std.proofs.Common.{◌∙◌, sym, arith}
use Rattle.jcl_plan.proofs.Trims.{trimmed-before-blanks}
use Rattle.jcl_plan.proofs.text.len_by_eights.Goals as goal

pub loop-len-preserved : goal.loop-len-preserved
loop-len-preserved c = (omega arith, trimmed-before-blanks c.args.text.now c.loop-len.len (omega arith) (sym c.has_other.ensures ∙ c.if-not-has_other.true) ∙ c.loop-len.invariant.1)
