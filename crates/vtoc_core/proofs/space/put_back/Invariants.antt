use Rattle.std.proofs.Common.{List, Bool, length}
use Rattle.vtoc_core.specs.Searches.{WereTaken}
use Rattle.vtoc_core.proofs.space.put_back.Given as goal

abbrev pub invariant-loop-extent : goal.invariant-loop-extent
invariant-loop-extent l = record {
  some : (before : List Bool) × WereTaken before l.taken.items l.free;
  all : (before : List Bool) → WereTaken before l.fn.extents.items l.initial.free → WereTaken before l.taken.items l.free;
}

abbrev pub decreases-loop-extent : goal.decreases-loop-extent
decreases-loop-extent l = length l.taken.items
