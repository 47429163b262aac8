use Rattle.std.proofs.Common.{◌≡◌, ◌≤◌, length, take}
use Rattle.jcl_plan.specs.Texts.{trimmed}
use Rattle.jcl_plan.proofs.text.len_by_ones.Given as goal

-- what is behind the front is blank
abbrev pub invariant-loop-len : goal.invariant-loop-len
invariant-loop-len l = record { within : l.len ≤ length l.text; same : trimmed l.text ≡ trimmed (take l.len l.text) }

abbrev pub decreases-loop-len : goal.decreases-loop-len
decreases-loop-len l = l.len
