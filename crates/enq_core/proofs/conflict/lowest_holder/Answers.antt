use Rattle.std.proofs.Common.{◌≡◌, ◌+◌, ◌⊎◌, take, Some, ap, sym, ◌∙◌, subst, arith}
use Rattle.enq_core.specs.declared.table.Hold.{Hold}
use Rattle.enq_core.specs.Holds.{conflicts}
use Rattle.enq_core.proofs.Alone.{IsLowestIn, all_looked_at, lowest_kept, lowest_taken, none_is_free, other_mark}
use Rattle.enq_core.proofs.conflict.lowest_holder.Goals.{then-mark+then-stands_in_the_way, else-mark, else-mark-via-then-mark+else-stands_in_the_way, else-mark-via-else-mark}
use Rattle.enq_core.proofs.conflict.lowest_holder.Goals as goal

pub loop-marked-preserved : goal.loop-marked-preserved
loop-marked-preserved c =
    let holds = c.args.holds.now in
    let want = c.args.want.now in
    let n = c.loop-marked.marked-index in
    let hold : Hold = c.marked-item.result in
    elim c.if-mark.branch [
      | then-mark+then-stands_in_the_way w ↦
          subst (IsLowestIn (take (n + 1) holds) want) (sym w.lowest-is)
          (lowest_taken holds want n hold c.loop-marked.lowest w.lower_of.result c.loop-marked-test.true c.marked-item.is
          (ap (conflicts want) (sym w.hold.ensures) ∙ sym w.stands_in_the_way.ensures ∙ w.if-stands_in_the_way.true)
          (subst (λ j. (w.lower_of.result ≡ j) ⊎ (Some w.lower_of.result ≡ c.loop-marked.lowest)) w.job.ensures w.lower_of.ensures.is)
          (omega (arith, w.lower_of.ensures.job, w.job.ensures)) w.lower_of.ensures.lowest c.loop-marked.invariant)
      | else-mark w ↦
          subst (IsLowestIn (take (n + 1) holds) want) (sym w.lowest-is)
          (lowest_kept holds want n hold c.loop-marked.lowest c.loop-marked-test.true c.marked-item.is
          (elim w.else-mark.branch [
            | else-mark-via-then-mark+else-stands_in_the_way v ↦
                ap (conflicts want) (sym v.hold.ensures) ∙ sym v.stands_in_the_way.ensures ∙ v.if-stands_in_the_way.false
            | else-mark-via-else-mark v ↦ other_mark want hold (λ e. v.if-mark.false (c.mark.ensures.mark ∙ e ∙ sym c.mark_of-mark.ensures.mark))
          ]) c.loop-marked.invariant)
    ]

pub returns-clause-none : goal.returns-clause-none
returns-clause-none c =
    none_is_free c.args.holds.now c.args.want.now c.loop-marked.lowest
    (all_looked_at c.args.holds.now c.args.want.now c.loop-marked.marked-index c.loop-marked.lowest (omega arith) c.loop-marked.invariant)
