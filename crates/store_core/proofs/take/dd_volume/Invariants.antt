use Rattle.std.proofs.Common.{◌≡◌, drop}
use Rattle.jcl_meaning.specs.Takes.{dd_volume}
use Rattle.store_core.proofs.take.dd_volume.Given as goal

-- what is left decides
abbrev pub invariant-loop-x : goal.invariant-loop-x
invariant-loop-x l = dd_volume (drop l.x-index l.volumes) l.step l.dd ≡ dd_volume l.volumes l.step l.dd
