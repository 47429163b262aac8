use Rattle.std.proofs.Common.{◌≡◌, true, take, All}
use Rattle.play_core.specs.Giving.{IsWait}
use Rattle.play_core.proofs.giving.note.Given as goal

abbrev pub invariant-loop-entry : goal.invariant-loop-entry
invariant-loop-entry l = l.all ≡ true → (l.before ≡ true) × All IsWait (take l.entry-index l.lines)
