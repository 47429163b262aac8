use Rattle.std.proofs.Common.{◌≡◌, ◌++◌, replicate}
use Rattle.check_core.proofs.text.push_blanks.Given as goal

abbrev pub invariant-loop-n : goal.invariant-loop-n
invariant-loop-n l = l.text.items ≡ l.initial.text.items ++ replicate l.n 32
