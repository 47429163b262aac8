use Rattle.std.proofs.Common.{◌≡◌, ◌++◌, take}
use Rattle.jcl_meaning.specs.Agendas.{lefts_in}
use Rattle.view_core.specs.Lefts.{left_actions}
use Rattle.view_core.proofs.leave.push_dds.Given as goal

abbrev pub invariant-loop-i : goal.invariant-loop-i
invariant-loop-i l = left_actions l.lefts.items ≡ left_actions l.fn.lefts.items ++ lefts_in l.step 1 (take l.i l.dds)
