use Rattle.std.proofs.Common.{◌≡◌, ◌≤◌, min, take}
use Rattle.jname_core.specs.Decimals.{decimal_value}
use Rattle.jname_core.proofs.decimal.capped_value.Given as goal

abbrev pub invariant-loop-c : goal.invariant-loop-c
invariant-loop-c l = (l.value ≤ l.cap) × (l.value ≡ min l.cap (decimal_value (take l.c-index l.digits)))
