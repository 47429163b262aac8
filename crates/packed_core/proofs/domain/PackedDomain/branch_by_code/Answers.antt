use Rattle.std.proofs.Common.{◌≡◌, ◌∙◌, ℕ, List, ap, get_or, map, subst}
use Rattle.packed_core.specs.declared.classes.Class.{Class}
use Rattle.packed_core.specs.Crossing.{IsPlaced}
use Rattle.packed_core.specs.Words.{bit}
use Rattle.packed_core.proofs.Led.{code_leads}
use Rattle.packed_core.proofs.domain.PackedDomain.branch_by_code.Goals as goal

pub returns-in_ok-moves-in-Ok-clause-leads : goal.returns-in_ok-moves-in-Ok-clause-leads
returns-in_ok-moves-in-Ok-clause-leads g c left placed =
    let plan = g.J.Job.plan in
    let date = g.J.Job.fixed.date in
    let behind = c.args.behind.now in
    let new : List ℕ = c.as_slice.result.now in
    let value : new ≡ c.renumbered-row.result.items = c.as_slice.ensures.value in
    code_leads _ plan date behind c.args.row.items new (λ i. ap (λ (l : List ℕ). bit l i) value ∙ c.renumbered-row.ensures.bits i) c.in-Ok.number
    (ap (λ (l : List ℕ). get_or l 0 0) value ∙ c.renumbered-row.ensures.first) (map (λ (k : Class). k.code) c.args.ways.now.classes.value.list.items)
    c.in_ok-moves-in-Ok.moves c.requires.ways.masks.codes c.in_ok-moves-in-Ok.ensures.moves left (subst (IsPlaced plan date behind left) c.in-Ok.is placed)
