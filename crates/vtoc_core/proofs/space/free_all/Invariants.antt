use Rattle.std.proofs.Common.{◌≡◌, true, drop}
use Rattle.vtoc_core.specs.Searches.{TakenInTurn, marked_each}
use Rattle.vtoc_core.proofs.space.free_all.Given as goal

abbrev pub invariant-loop-extent : goal.invariant-loop-extent
invariant-loop-extent l = record {
  taken : TakenInTurn l.free (drop l.extent-index l.extents);
  marked : marked_each true (drop l.extent-index l.extents) l.free ≡ marked_each true l.extents l.initial.free;
}
