use Rattle.std.proofs.Common.{◌≡◌, drop}
use Rattle.jcl_meaning.specs.Stores.{set_in}
use Rattle.store_core.proofs.store.set_in.Given as goal

-- what is left decides
abbrev pub invariant-loop-x : goal.invariant-loop-x
invariant-loop-x l = set_in (drop l.x-index l.x-items) l.key l.serial ≡ set_in l.x-items l.key l.serial
