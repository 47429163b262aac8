use Rattle.std.specs.FinMap.{len}
use Rattle.mount_core.proofs.GivingBack.{GivesBack}
use Rattle.mount_core.proofs.mounted.Mounted.give_back_all.Given as goal

abbrev pub invariant-loop-place : goal.invariant-loop-place
invariant-loop-place l = GivesBack l.job l.fn.self l.self

abbrev pub decreases-loop-place : goal.decreases-loop-place
decreases-loop-place l = len l.self.kept
