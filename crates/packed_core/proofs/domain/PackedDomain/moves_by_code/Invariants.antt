use Rattle.std.proofs.Common.{map, take}
use Rattle.packed_core.specs.Moving.{AreMovesByCode}
use Rattle.packed_core.proofs.domain.PackedDomain.moves_by_code.Given as goal

-- each code so far is told
abbrev pub invariant-loop-class : goal.invariant-loop-class
invariant-loop-class g l =
    AreMovesByCode (λ v. v.row.items) g.J.Job.plan g.J.Job.fixed.date l.behind l.base (map (λ k. k.code) (take l.class-index l.classes)) l.moves.items
