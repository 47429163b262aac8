use Rattle.std.proofs.Common.{◌<◌, ℕ, List, length, take}
use Rattle.packed_core.specs.Indexed.{IsIndexOf}
use Rattle.packed_core.proofs.index.index_again.Given as goal

abbrev pub invariant-loop-hash : goal.invariant-loop-hash
invariant-loop-hash l = record {
  linked : (rows : List (List ℕ)) → IsIndexOf rows l.index → IsIndexOf (take l.hash-index rows) l.more.value;
  some : 0 < length l.more.value.heads.items;
}
