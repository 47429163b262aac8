use Rattle.std.proofs.Common.{sym}
use Rattle.extent_core.proofs.Covering.{length-tracks_of}
use Rattle.extent_core.proofs.free.FreeExtents.tracks.Goals as goal

pub returns : goal.returns
returns c = rw (← c.self.view_is) (sym (length-tracks_of c.self.inside.count c.self.inside.sizes c.self.invariant.room))
