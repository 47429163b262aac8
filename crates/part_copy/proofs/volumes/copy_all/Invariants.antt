use Rattle.std.proofs.Common.{take}
use Rattle.part_copy.specs.Copies.{AddsSets, bare_at, is_seen_on}
use Rattle.part_copy.proofs.volumes.copy_all.Given as goal

abbrev pub invariant-loop-mounted : goal.invariant-loop-mounted
invariant-loop-mounted l = AddsSets (bare_at l.job l.volumes) (is_seen_on l.names (take l.mounted-index l.volumes)) l.fn.sets l.sets
