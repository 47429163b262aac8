use Rattle.std.proofs.Common.{◌≡◌, take}
use Rattle.jcl_meaning.proofs.store.copies_of_entries.Given as goal

abbrev pub invariant-loop-entry : goal.invariant-loop-entry
invariant-loop-entry l = l.copies ≡ take l.entry-index l.entries
