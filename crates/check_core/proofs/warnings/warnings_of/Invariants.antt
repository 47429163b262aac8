use Rattle.std.proofs.Common.{◌≡◌, ◌++◌, drop}
use Rattle.check_core.specs.Warnings.{warned_from, warned_of}
use Rattle.check_core.proofs.warnings.warnings_of.Given as goal

-- what the cards so far warn of, and those that are left
abbrev pub invariant-loop-card : goal.invariant-loop-card
invariant-loop-card l = l.warned.items ++ warned_from l.checked l.card (drop l.card l.lines) ≡ warned_of l.checked l.lines
