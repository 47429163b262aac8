use Rattle.std.proofs.Common.{◌≡◌}
use Rattle.picture_core.proofs.label.Label.push_lines.Given as goal

abbrev pub invariant-loop-line : goal.invariant-loop-line
invariant-loop-line l = l.self.letters ≡ l.fn.self.letters
