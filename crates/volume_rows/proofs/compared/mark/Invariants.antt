use Rattle.std.proofs.Common.{◌≡◌, ◌+◌, ◌-◌, ◌≤◌}
use Rattle.extent_core.specs.Extents.{extent, marked}
use Rattle.volume_rows.proofs.compared.mark.Given as goal

abbrev pub invariant-loop-at : goal.invariant-loop-at
invariant-loop-at l = (l.at ≤ l.start + l.fn.extent.tracks) × (l.tracks ≡ marked l.free (extent l.start (l.at - l.start)) l.initial.tracks)
