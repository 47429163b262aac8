use Rattle.std.proofs.Common.{◌≡◌, ◌++◌}
use Rattle.part_copy.specs.Copies.{copies_of_entries}
use Rattle.part_copy.proofs.entries.copy_entries.Given as goal

abbrev pub invariant-loop-name : goal.invariant-loop-name
invariant-loop-name l = l.entries ++ copies_of_entries l.held l.name-iterator ≡ l.fn.entries ++ copies_of_entries l.held l.fn.all
