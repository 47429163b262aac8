use Rattle.std.proofs.Common.{List, ◌∙◌, arith, length, rules, subst, sym}
use Rattle.enq_core.specs.declared.table.Want.{Want}
use Rattle.enq_core.specs.declared.waits.Wait.{Wait}
use Rattle.enq_core.specs.Holds.{IsFirstBlock}
use Rattle.enq_core.proofs.Alone.{blocked_at_start}
use Rattle.enq_core.proofs.waits.noted.Goals as goal

pub returns-then-begin_with : goal.returns-then-begin_with
returns-then-begin_with c = λ holds right.
    let wait = c.wait-item.result in
    let n = length c.as_slice.result.now in
    let first : IsFirstBlock holds wait.wants wait.blocked =
    subst (λ (w : Wait). IsFirstBlock holds w.wants w.blocked) (sym c.wait-item.is) (right c.loop-wait.wait-index wait (search (rules, arith))) in
    blocked_at_start holds c.args.wants.now n wait.blocked
    (subst (λ (ws : List Want). IsFirstBlock holds ws wait.blocked) (sym (c.if-begin_with.ensures ∙ c.as_slice.ensures)) first)
