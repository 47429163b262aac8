use Rattle.std.proofs.Common.{◌≡◌, ◌++◌, take, drop}
use Rattle.jcl_meaning.specs.EndActs.{without_pass}
use Rattle.disp_core.proofs.dispose.pass_place.Given as goal

-- those so far stay
abbrev pub invariant-loop-i : goal.invariant-loop-i
invariant-loop-i l = take l.i l.passed ++ without_pass (drop l.i l.passed) l.n l.dd ≡ without_pass l.passed l.n l.dd
