use Rattle.std.proofs.Common.{◌≡◌, ◌++◌, ◌∷◌, ◌∙◌, ◌+◌, ◌<◌, ℕ, List, [], ap, arith, length, map, sym, take}
use Rattle.std.proofs.lemmas.List.{map-append, take_all, take_more}
use Rattle.packed_core.specs.declared.classes.Class.{Class}
use Rattle.packed_core.proofs.Moves.{moves_as, moves_more, no_moves}
use Rattle.packed_core.proofs.domain.PackedDomain.moves_by_code.Goals as goal

pub loop-class-init : goal.loop-class-init
loop-class-init g c = no_moves _ g.J.Job.plan g.J.Job.fixed.date c.args.behind.now c.args.base.now c.new-moves.result.items c.new-moves.ensures.items

pub loop-class-preserved : goal.loop-class-preserved
loop-class-preserved g c =
    let classes : List Class = c.args.classes.now in
    let class : Class = c.class-item.result in
    let i : ℕ = c.loop-class.class-index in
    let codes : List Class → List ℕ = map (λ (k : Class). k.code) in
    let within : i < length classes = omega (arith, c.loop-class-test.true) in
    let one_more : codes (take (i + 1) classes) ≡ codes (take i classes) ++ class.code ∷ [] =
    ap codes (take_more classes i class within ∙ ap (λ (k : Class). take i classes ++ k ∷ []) (sym c.class-item.is))
    ∙ map-append (λ (k : Class). k.code) (take i classes) (class ∷ []) in
    moves_more _ g.J.Job.plan g.J.Job.fixed.date c.args.behind.now c.args.base.now (codes (take i classes)) (codes (take (i + 1) classes)) class.code
    c.loop-class.moves.items c.push_told.new.moves.items c.in_ok-told.told one_more c.in_ok-push_told.ensures.pushed c.loop-class.invariant
    c.in_ok-told.ensures.tells

pub returns : goal.returns
returns g c =
    let classes : List Class = c.args.classes.now in
    let codes : List Class → List ℕ = map (λ (k : Class). k.code) in
    moves_as _ g.J.Job.plan g.J.Job.fixed.date c.args.behind.now c.args.base.now (codes (take c.loop-class.class-index classes)) (codes classes)
    c.loop-class.moves.items (ap codes (take_all c.loop-class.class-index classes (omega (arith, c.loop-class-test.false)))) c.loop-class.invariant
