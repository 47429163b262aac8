use Rattle.std.proofs.Common.{◌≡◌, ◌++◌, take, drop}
use Rattle.jcl_meaning.specs.Takes.{without_passed}
use Rattle.disp_core.proofs.take.passed_place.Given as goal

-- those so far stay
abbrev pub invariant-loop-i : goal.invariant-loop-i
invariant-loop-i l = take l.i l.passed ++ without_passed (drop l.i l.passed) l.key ≡ without_passed l.passed l.key
