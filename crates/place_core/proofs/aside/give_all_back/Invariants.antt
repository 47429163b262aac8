use Rattle.std.proofs.Common.{◌≡◌, ◌-◌, drop, length}
use Rattle.place_core.specs.Volumes.{all_back}
use Rattle.place_core.proofs.aside.give_all_back.Given as goal

abbrev pub invariant-loop-i : goal.invariant-loop-i
invariant-loop-i l = l.volumes ≡ all_back l.job (drop (length l.places - l.i) l.places) l.fn.volumes
