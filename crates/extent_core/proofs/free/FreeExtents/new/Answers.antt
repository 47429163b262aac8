use Rattle.extent_core.proofs.Tracks.{none_free}
use Rattle.std.proofs.Common.{arith}
use Rattle.extent_core.proofs.free.FreeExtents.new.Goals as goal

pub returns : goal.returns
returns c = none_free c.from-count.result c.args.tracks c.in_ok-sizes.sizes (omega (arith, c.in_ok-sizes.ensures.room)) (omega arith) c.in_ok-sizes.ensures.zeros
