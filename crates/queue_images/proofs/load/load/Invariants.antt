use Rattle.std.proofs.Common.{◌≡◌}
use Rattle.queue_images.specs.Loading.{IsLoadedTo}
use Rattle.queue_images.proofs.load.load.Given as goal

abbrev pub invariant-loop-n : goal.invariant-loop-n
invariant-loop-n g l = record {
  loaded : IsLoadedTo l.image l.n (g.S.RecordStore.queue l.store);
  room : g.S.RecordStore.lacking l.store ≡ 0;
}
