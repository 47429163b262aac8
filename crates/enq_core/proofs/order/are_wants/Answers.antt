use Rattle.std.proofs.Common.{is_ge, refl, sym, ap, ◌∙◌, arith}
use Rattle.enq_core.proofs.Rising.{wants_from_neighbours, wants_rise}
use Rattle.enq_core.proofs.order.are_wants.Goals as goal

pub returns-then-ge : goal.returns-then-ge
returns-then-ge c = (
  λ e. absurd (cc),
  λ a. sym (ap is_ge (wants_rise c.args.wants.now _ c.loop-i.i c.index-wants-i.result c.index-wants-i-in-loop-i.result a (omega arith) c.loop-i-test.true))
      ∙ sym c.ge.ensures ∙ c.if-ge.true,
)

pub returns : goal.returns
returns c = (λ e. wants_from_neighbours c.args.wants.now (λ i j d e h. c.loop-i.invariant i j d e (omega arith)), λ a. refl)
