use Rattle.std.proofs.Common.{◌≡◌, map, take}
use Rattle.solo_core.specs.Meets.{faults_of, met_of}
use Rattle.solo_core.proofs.path.faults_in.Given as goal

abbrev pub invariant-loop-place : goal.invariant-loop-place
invariant-loop-place l = map met_of l.faults ≡ faults_of (take l.place l.meets)
