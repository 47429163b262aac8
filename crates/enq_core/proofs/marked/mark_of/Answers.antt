use Rattle.std.proofs.Common.{arith, refl}
use Rattle.std.proofs.lemmas.Grind.{common_steps}
use Rattle.std.proofs.lemmas.List.Sums.{fold_more}
use Rattle.enq_core.specs.Marks.{mark_of}
use Rattle.enq_core.proofs.marked.mark_of.Goals as goal

pub loop-byte-init : goal.loop-byte-init
unfolding mark_of
loop-byte-init c = record { within = omega arith; mark = refl }

pub loop-byte-preserved : goal.loop-byte-preserved
unfolding mark_of
loop-byte-preserved c = record { within = omega arith; mark = grind (arith, common_steps, fold_more) }
