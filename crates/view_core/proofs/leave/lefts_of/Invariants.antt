use Rattle.std.proofs.Common.{◌≡◌, take}
use Rattle.jcl_meaning.specs.Agendas.{lefts_from}
use Rattle.view_core.specs.Lefts.{left_actions}
use Rattle.view_core.proofs.leave.lefts_of.Given as goal

abbrev pub invariant-loop-i : goal.invariant-loop-i
invariant-loop-i l = left_actions l.lefts.items ≡ lefts_from 1 (take l.i l.steps)
