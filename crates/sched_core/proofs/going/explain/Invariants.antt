use Rattle.std.proofs.Common.{◌≡◌, ◌+◌, ◌++◌, length, map}
use Rattle.std.specs.Vec.{vec_capacity, vec_len}
use Rattle.std.specs.Vec.Iter.{into_iter_items}
use Rattle.jcl_plan.specs.declared.entry.Entry.TheVariants as entry
use Rattle.sched_core.proofs.going.explain.Given as goal

abbrev pub invariant-loop-line : goal.invariant-loop-line
invariant-loop-line l =
    (l.entries.items ++ map (entry.Path l.job) (into_iter_items l.line-iterator) ≡ l.fn.entries.items ++ map (entry.Path l.job) l.fn.path)
    × (vec_len l.entries + length (into_iter_items l.line-iterator) ≡ vec_len l.fn.entries + length l.fn.path)
    × (vec_capacity l.entries ≡ vec_capacity l.fn.entries)
