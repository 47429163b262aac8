use Rattle.vtoc_core.proofs.FreeTracks.{IsFound}
use Rattle.vtoc_core.proofs.space.free_among.Given as goal

abbrev pub invariant-loop-at : goal.invariant-loop-at
invariant-loop-at l = IsFound l.at l.tracks l.free
