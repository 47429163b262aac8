use Rattle.std.proofs.Common.{List, subst, sym, ap, ◌++◌, ◌∙◌}
use Rattle.std.proofs.lemmas.List.Elements.{All-nil}
use Rattle.enq_core.specs.declared.table.Hold.{Hold}
use Rattle.enq_core.specs.declared.waits.Wait.{Wait}
use Rattle.enq_core.specs.Holds.{HoldsNone, IsFirstBlock, holds_of}
use Rattle.enq_core.specs.Order.{AreInOrder}
use Rattle.enq_core.specs.Waits.{AreRight}
use Rattle.enq_core.proofs.Rising.{more_in_order}
use Rattle.enq_core.proofs.table.EnqTable.hold_all.Goals as goal

pub invariant_of-self-2 : goal.invariant_of-self-2
invariant_of-self-2 c = record {
  in_order = subst AreInOrder (sym (c.append.ensures ∙ ap (λ (holds : List Hold). holds ++ holds_of c.args.job c.args.wants.now) c.reserve.ensures.items))
      (more_in_order c.self.inside.holds.items c.args.job c.args.wants.now c.self.invariant.in_order
      (subst (λ (holds : List Hold). HoldsNone holds c.args.job) (sym c.self.view_is) c.requires.none) c.requires.order);
  right = subst (λ (waits : List Wait). AreRight c.append.new.holds.items waits) (sym c.forget.ensures)
      (All-nil (λ (wait : Wait). IsFirstBlock c.append.new.holds.items wait.wants wait.blocked));
}
