use Rattle.std.proofs.Common.{◌≡◌, ◌+◌, ◌-◌, ◌≤◌, [], ◌∷◌}
use Rattle.extent_core.specs.Extents.{extent}
use Rattle.vtoc_core.specs.Volumes.{marked}
use Rattle.vtoc_core.proofs.marks.mark_one.Given as goal

abbrev pub invariant-loop-at : goal.invariant-loop-at
invariant-loop-at l =
    (l.at ≤ l.start + l.fn.extent.tracks) × (l.tracks ≡ marked l.kind (extent l.start (l.at - l.start) ∷ []) l.initial.tracks)
