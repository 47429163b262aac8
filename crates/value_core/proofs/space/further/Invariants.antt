use Rattle.std.proofs.Common.{◌≡◌, None, [], length}
use Rattle.operand_core.specs.Faults.{earlier, told}
use Rattle.value_core.specs.Spaces.{further_faults}
use Rattle.value_core.proofs.Tracks.{left_of}
use Rattle.value_core.proofs.space.further.Given as goal

abbrev pub invariant-loop-next : goal.invariant-loop-next
invariant-loop-next l =
    (l.next ≡ None → l.places ≡ []) × (earlier l.fault (told (further_faults l.at (left_of l.next l.places))) ≡ told (further_faults 2 l.fn.places))

abbrev pub decreases-loop-next : goal.decreases-loop-next
decreases-loop-next l = length (left_of l.next l.places)
