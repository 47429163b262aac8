use Rattle.std.proofs.Common.{◌≡◌, ◌++◌}
use Rattle.std.specs.Option.{option_copied}
use Rattle.part_copy.specs.Copies.{copies_of_sets}
use Rattle.part_copy.proofs.sets.copy_sets.Given as goal

abbrev pub invariant-loop-key : goal.invariant-loop-key
invariant-loop-key l =
    l.sets ++ copies_of_sets l.job (option_copied l.held) l.serial l.key-iterator ≡ l.fn.sets ++ copies_of_sets l.job (option_copied l.held) l.serial l.fn.all
