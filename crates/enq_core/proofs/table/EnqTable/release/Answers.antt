use Rattle.std.proofs.Common.{◌==◌, List, not, subst, sym}
use Rattle.std.proofs.lemmas.List.Elements.{All-nil}
use Rattle.enq_core.specs.declared.waits.Wait.{Wait}
use Rattle.enq_core.specs.Holds.{IsFirstBlock}
use Rattle.enq_core.specs.Order.{AreInOrder}
use Rattle.enq_core.specs.Waits.{AreRight}
use Rattle.enq_core.proofs.Rising.{kept_in_order}
use Rattle.enq_core.proofs.table.EnqTable.release.Goals as goal

pub invariant_of-self : goal.invariant_of-self
invariant_of-self c = record {
  in_order = subst AreInOrder (sym c.release_job.ensures)
      (kept_in_order (λ hold. not (hold.job == c.held.inside.job)) c.self.inside.holds.items c.self.invariant.in_order);
  right = subst (λ (waits : List Wait). AreRight c.release_job.new.holds.items waits) (sym c.forget.ensures)
      (All-nil (λ (wait : Wait). IsFirstBlock c.release_job.new.holds.items wait.wants wait.blocked));
}
