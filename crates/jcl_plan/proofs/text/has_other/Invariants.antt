use Rattle.std.proofs.Common.{◌≡◌, ◌==◌, not, take}
use Rattle.std.specs.List.{list_any}
use Rattle.jcl_plan.proofs.text.has_other.Given as goal

abbrev pub invariant-loop-c : goal.invariant-loop-c
invariant-loop-c l = l.found ≡ list_any (λ c. not (c == 32)) (take l.c-index l.text)
