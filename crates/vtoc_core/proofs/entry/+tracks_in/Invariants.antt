use Rattle.std.proofs.Common.{length}
use Rattle.vtoc_core.proofs.entry.+tracks_in.Given as goal

abbrev pub decreases-tracks_in : goal.decreases-tracks_in
decreases-tracks_in l = length l.extents.now
