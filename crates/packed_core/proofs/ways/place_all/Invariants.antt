use Rattle.std.proofs.Common.{◌≡◌, length, map, take}
use Rattle.std.specs.Prelude.{All}
use Rattle.packed_core.specs.declared.ways.Looked.{Looked}
use Rattle.packed_core.specs.Ways.{IsThere}
use Rattle.packed_core.proofs.ways.place_all.Given as goal

-- the rows so far are found
abbrev pub invariant-loop-i : goal.invariant-loop-i
invariant-loop-i l = record {
  many : length l.looked.items ≡ length l.fn.looked.items;
  there : All (IsThere l.rows l.list l.base) (take l.i l.looked.items);
  same : map (λ (x : Looked). x.class) l.looked.items ≡ map (λ (x : Looked). x.class) l.fn.looked.items;
}
