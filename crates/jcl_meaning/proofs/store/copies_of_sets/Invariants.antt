use Rattle.std.proofs.Common.{◌≡◌, take}
use Rattle.jcl_meaning.proofs.store.copies_of_sets.Given as goal

abbrev pub invariant-loop-set : goal.invariant-loop-set
invariant-loop-set l = l.copies ≡ take l.set-index l.sets
