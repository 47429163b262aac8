use Rattle.std.proofs.Common.{take}
use Rattle.std.specs.List.{All}
use Rattle.shared_core.specs.Sizes.{HasItsSize}
use Rattle.shared_core.proofs.sums.volumes_have_their_sizes.Given as goal

abbrev pub invariant-loop-mounted : goal.invariant-loop-mounted
invariant-loop-mounted l = All HasItsSize (take l.mounted-index l.mounted-items)
