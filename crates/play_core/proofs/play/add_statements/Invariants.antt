use Rattle.std.proofs.Common.{◌≡◌, ◌+◌, ◌++◌, take}
use Rattle.play_core.specs.Given.{statements_at}
use Rattle.play_core.proofs.play.add_statements.Given as goal

abbrev pub invariant-loop-next : goal.invariant-loop-next
invariant-loop-next l = record {
  statements : l.statements ≡ l.fn.statements ++ statements_at l.line (take l.next-index l.given);
  at : l.at ≡ l.line + l.next-index;
}
