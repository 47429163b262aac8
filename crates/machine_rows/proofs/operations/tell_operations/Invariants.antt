use Rattle.std.proofs.Common.{◌≤◌, length}
use Rattle.machine_rows.proofs.operations.tell_operations.Given as goal

abbrev pub invariant-loop-started : goal.invariant-loop-started
invariant-loop-started l = length l.units ≤ l.started
