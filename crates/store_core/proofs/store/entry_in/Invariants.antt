use Rattle.std.proofs.Common.{◌≡◌, drop}
use Rattle.jcl_meaning.specs.Stores.{entry_in}
use Rattle.store_core.proofs.store.entry_in.Given as goal

-- what is left decides
abbrev pub invariant-loop-x : goal.invariant-loop-x
invariant-loop-x l = entry_in (drop l.x-index l.x-items) l.name ≡ entry_in l.x-items l.name
