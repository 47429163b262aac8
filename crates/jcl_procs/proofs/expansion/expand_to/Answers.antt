use Rattle.std.proofs.Common.{ap, arith, length, subst}
use Rattle.jcl_procs.proofs.Counting.{Holds, goes_by, takes}
use Rattle.jcl_procs.proofs.expansion.expand_to.Goals as goal

pub loop-step-preserved-then-is_many : goal.loop-step-preserved-then-is_many
loop-step-preserved-then-is_many c =
    let library = c.args.library.now in
    let procedures = c.args.procedures.now in
    let next = c.in-Some.ensures.items in
    let it = subst (λ rest. Holds library procedures c.args.most c.args.steps c.loop-step.place rest c.loop-step.expansion c.loop-step.known.items) next
    c.loop-step.invariant.0 in (
      goes_by library procedures c.args.most c.args.steps c.loop-step.place c.in-Some.step c.pop_front.new.self.items c.loop-step.expansion
          c.loop-step.known.items it c.in_ok-tell_step.ensures.tells.0 c.tell_step.new.known.items c.in_ok-tell_step.ensures.tells.1
          c.if-is_many.ensures c.in_ok-tell_step.ensures.known,
      omega (arith, c.loop-step.invariant.1, ap length next),
      c.in_ok-tell_step.ensures.remembered,
    )

pub loop-step-preserved : goal.loop-step-preserved
loop-step-preserved c =
    let library = c.args.library.now in
    let procedures = c.args.procedures.now in
    let next = c.in-Some.ensures.items in
    let it = subst (λ rest. Holds library procedures c.args.most c.args.steps c.loop-step.place rest c.loop-step.expansion c.loop-step.known.items) next
    c.loop-step.invariant.0 in (
      takes library procedures c.args.most c.args.steps c.loop-step.place c.in-Some.step c.pop_front.new.self.items c.loop-step.expansion
          c.loop-step.known.items it c.in_ok-found.found c.in_ok-expansion.expansion c.in_ok-found.ensures.gives c.in_ok-expansion.ensures.few
          c.in_ok-expansion.ensures.many,
      omega (arith, c.loop-step.invariant.1, ap length next),
      c.in_ok-found.ensures.remembered,
    )
