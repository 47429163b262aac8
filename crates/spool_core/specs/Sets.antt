-- Whether there is something for the writer of a class.
use Rattle.std.specs.Prelude.{ℕ, Bool, ◌==◌, List}
use Rattle.std.specs.List.{list_any}
use Rattle.machine_meaning.specs.declared.machine.SpoolSet.{SpoolSet}

abbrev pub has_set : List SpoolSet → ℕ → Bool
has_set spool class = list_any (λ set. set.class == class) spool
