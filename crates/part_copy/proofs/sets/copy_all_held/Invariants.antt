use Rattle.std.proofs.Common.{take}
use Rattle.jcl_meaning.specs.Names.{held_under}
use Rattle.part_copy.specs.Copies.{AddsSets, bare_on, is_under_some}
use Rattle.part_copy.proofs.sets.copy_all_held.Given as goal

abbrev pub invariant-loop-held : goal.invariant-loop-held
invariant-loop-held l = AddsSets (bare_on l.job l.mounted) (λ spot. is_under_some (take l.held-index l.names) (held_under spot.0)) l.fn.sets l.sets
