use Rattle.std.proofs.Common.{◌<◌, length, take}
use Rattle.packed_core.specs.Indexed.{IsIndexOf}
use Rattle.packed_core.proofs.index.index_of.Given as goal

abbrev pub invariant-loop-n : goal.invariant-loop-n
invariant-loop-n l = record {
  linked : IsIndexOf (take l.n l.rows) l.index.value;
  some : 0 < length l.index.value.heads.items;
}
