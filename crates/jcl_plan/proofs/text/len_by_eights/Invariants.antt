use Rattle.std.proofs.Common.{◌≡◌, ◌≤◌, length, take}
use Rattle.jcl_plan.specs.Texts.{trimmed}
use Rattle.jcl_plan.proofs.text.len_by_eights.Given as goal

abbrev pub invariant-loop-len : goal.invariant-loop-len
invariant-loop-len l = (l.len ≤ length l.text) × (trimmed (take l.len l.text) ≡ trimmed l.text)

abbrev pub decreases-loop-len : goal.decreases-loop-len
decreases-loop-len l = l.len
