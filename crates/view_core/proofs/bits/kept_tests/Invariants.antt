use Rattle.std.proofs.Common.{◌≡◌, ◌++◌, take}
use Rattle.std.specs.List.{flat_map}
use Rattle.view_core.proofs.bits.kept_tests.Given as goal

abbrev pub invariant-loop-step : goal.invariant-loop-step
invariant-loop-step l = l.kept.items ≡ l.job ++ flat_map (λ s. s.tests.items) (take l.step-index l.later)
