use Rattle.std.proofs.Common.{◌≡◌, ◌++◌, take}
use Rattle.jcl_meaning.specs.TakeActs.{back_lines}
use Rattle.disp_core.proofs.refuse.say_backs.Given as goal

-- those of the DDs so far are written
abbrev pub invariant-loop-x : goal.invariant-loop-x
invariant-loop-x l = l.lines ≡ l.fn.lines ++ back_lines (take l.x-index l.dds)
