use Rattle.std.proofs.Common.{◌≡◌, ◌++◌, drop}
use Rattle.check_core.specs.Warnings.{warnings_text}
use Rattle.check_core.proofs.warnings.push_warned.Given as goal

-- what is written, and what the warnings left add
abbrev pub invariant-loop-warning : goal.invariant-loop-warning
invariant-loop-warning l = l.text.items ++ warnings_text l.fn.first (drop l.warning-index l.fn.warned) ≡ l.initial.text.items ++ warnings_text l.fn.first l.fn.warned
