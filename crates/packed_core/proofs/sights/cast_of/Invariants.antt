use Rattle.std.proofs.Common.{◌≡◌, map, take}
use Rattle.packed_core.specs.Entries.{scenes_of}
use Rattle.packed_core.proofs.sights.cast_of.Given as goal

abbrev pub invariant-loop-entry : goal.invariant-loop-entry
invariant-loop-entry g l = map (λ rc. rc.value) l.scenes.items ≡ scenes_of (take l.entry-index l.entries)
