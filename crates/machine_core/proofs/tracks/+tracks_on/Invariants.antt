use Rattle.std.proofs.Common.{length}
use Rattle.machine_core.proofs.tracks.+tracks_on.Given as goal

abbrev pub decreases-tracks_on : goal.decreases-tracks_on
decreases-tracks_on l = length l.volumes.now
