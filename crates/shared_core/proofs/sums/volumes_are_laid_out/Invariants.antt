use Rattle.std.proofs.Common.{take}
use Rattle.std.specs.List.{All}
use Rattle.shared_core.specs.LaidOut.{IsLaidOut}
use Rattle.shared_core.proofs.sums.volumes_are_laid_out.Given as goal

abbrev pub invariant-loop-mounted : goal.invariant-loop-mounted
invariant-loop-mounted l = All IsLaidOut (take l.mounted-index l.volumes)
