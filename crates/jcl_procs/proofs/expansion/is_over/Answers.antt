use Rattle.std.proofs.Common.{ap, arith, length, subst}
use Rattle.jcl_procs.proofs.Counting.{Counts, counts_on}
use Rattle.jcl_procs.proofs.expansion.is_over.Goals as goal

pub loop-step-preserved : goal.loop-step-preserved
loop-step-preserved c =
    let library = c.args.library.now in
    let procedures = c.args.procedures.now in
    let next = c.in-Some.ensures.items in
    let it = subst (λ rest. Counts library procedures c.args.most c.args.steps c.loop-step.place rest c.loop-step.left c.loop-step.known.items) next
    c.loop-step.invariant.0 in (
      counts_on library procedures c.args.most c.args.steps c.loop-step.place c.in-Some.step c.pop_front.new.self.items c.loop-step.left
          c.loop-step.known.items it c.in_ok-count.ensures.tells.0 c.in_ok-count.count c.left_behind-left.result c.tell_step.new.known.items
          c.in_ok-count.ensures.tells.1 c.in_ok-count.ensures.tells.2 c.left_behind-left.ensures c.in_ok-count.ensures.known,
      omega (arith, c.loop-step.invariant.1, ap length next),
      c.in_ok-count.ensures.remembered,
    )
