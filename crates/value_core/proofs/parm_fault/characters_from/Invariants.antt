use Rattle.std.proofs.Common.{◌≡◌, ◌≤◌, ◌+◌, false, drop}
use Rattle.value_core.specs.Parms.{characters_from}
use Rattle.value_core.proofs.parm_fault.characters_from.Given as goal

abbrev pub invariant-loop-c : goal.invariant-loop-c
invariant-loop-c l =
    (l.count ≤ l.c-index) × (characters_from false false l.text ≡ l.count + characters_from l.within l.first (drop l.c-index l.text))
