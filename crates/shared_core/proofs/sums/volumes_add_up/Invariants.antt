use Rattle.std.proofs.Common.{take}
use Rattle.std.specs.List.{All}
use Rattle.shared_core.specs.Tracks.{AddsUp}
use Rattle.shared_core.proofs.sums.volumes_add_up.Given as goal

abbrev pub invariant-loop-mounted : goal.invariant-loop-mounted
invariant-loop-mounted l = All AddsUp (take l.mounted-index l.mounted-items)
