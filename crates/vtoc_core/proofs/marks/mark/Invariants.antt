use Rattle.std.proofs.Common.{◌≡◌, drop}
use Rattle.vtoc_core.specs.Volumes.{marked}
use Rattle.vtoc_core.proofs.marks.mark.Given as goal

abbrev pub invariant-loop-extent : goal.invariant-loop-extent
invariant-loop-extent l = marked l.kind (drop l.extent-index l.extents) l.tracks ≡ marked l.kind l.extents l.initial.tracks
