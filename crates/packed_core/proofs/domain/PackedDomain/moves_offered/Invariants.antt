use Rattle.std.proofs.Common.{◌≡◌, ℕ, Some, map, take}
use Rattle.std.specs.Prelude.{◌⊎◌, Contains, slice_get}
use Rattle.packed_core.specs.declared.classes.Class.{Class}
use Rattle.packed_core.specs.declared.ways.Looked.{Looked}
use Rattle.packed_core.specs.Moving.{AreMovesByCode}
use Rattle.packed_core.specs.Ways.{Stands}
use Rattle.packed_core.proofs.Moves.{code_at}
use Rattle.packed_core.proofs.domain.PackedDomain.moves_offered.Given as goal

-- each class so far is told, and was looked at where its row does not stand
abbrev pub invariant-loop-number : goal.invariant-loop-number
invariant-loop-number g l = record {
  told : AreMovesByCode (λ v. v.row.items) g.J.Job.plan g.J.Job.fixed.date l.behind l.base (map (code_at l.classes) (take l.number-index l.numbers)) l.moves.items;
  seen : (j : ℕ) (class : Class) → Contains (take l.number-index l.numbers) j → slice_get l.classes j ≡ Some class →
      Contains (map (λ (x : Looked). x.class) l.looked.items) j ⊎ Stands l.behind.rows l.base class;
}
