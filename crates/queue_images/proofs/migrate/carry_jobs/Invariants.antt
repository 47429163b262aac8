use Rattle.std.proofs.Common.{◌≡◌, [], ℕ, List, take}
use Rattle.cb_meaning.specs.declared.layout.TheConstants.{LAYOUT_2}
use Rattle.queue_images.specs.Carrying.{AreCarried}
use Rattle.queue_images.specs.Loading.{IsLoaded}
use Rattle.queue_images.proofs.migrate.carry_jobs.Given as goal

abbrev pub invariant-loop-w : goal.invariant-loop-w
invariant-loop-w l = record {
  layout : l.new.queue.layout ≡ LAYOUT_2;
  nobody : l.new.queue.waiting ≡ [];
  carried : (image : List ℕ) → IsLoaded image l.old.queue →
      AreCarried image l.units (take l.w-index l.jobs) l.new.queue l.sorted.kept.items l.sorted.dropped.items;
}
