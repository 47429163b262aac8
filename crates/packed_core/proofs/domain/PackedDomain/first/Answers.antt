use Rattle.std.proofs.Common.{◌≡◌, ◌∷◌, ◌∙◌, ℕ, List, [], Vec, ap, map, subst}
use Rattle.std.specs.Global.{Global}
use Rattle.jcl_plan.specs.declared.plan.JobPlan.{JobPlan}
use Rattle.jcl_meaning.specs.Views.{View}
use Rattle.packed_core.specs.Moving.{all_shown, shown_among}
use Rattle.packed_core.specs.Rooms.{room_at}
use Rattle.packed_core.specs.Views.{Views}
use Rattle.packed_core.specs.Words.{IsRow}
use Rattle.packed_core.proofs.Putting.{first_shown, put_among_none, renumbered_row}
use Rattle.packed_core.proofs.domain.PackedDomain.first.Goals as goal

pub view_of-requires : goal.view_of-requires
view_of-requires g c =
    let plan : JobPlan = g.J.Job.plan in
    let views : Views = c.put_scene.new.views in
    let row : List ℕ = c.renumbered-row.result.items in
    let at : views.part ≡ 0 = c.in_ok-number.ensures.more.part ∙ ap (λ (v : Views). v.part) c.none_before-views.ensures.none in
    subst (λ (k : ℕ). IsRow (room_at plan k) row) at
    (renumbered_row (room_at plan views.part) c.in_ok-blank_row.field-0.items row c.in_ok-number.number
    c.in_ok-blank_row.ensures.blank.packed c.renumbered-row.ensures)

pub returns-clause-first : goal.returns-clause-first
returns-clause-first g c =
    let plan : JobPlan = g.J.Job.plan in
    let date : ℕ = g.J.Job.fixed.date in
    let views : Views = c.put_scene.new.views in
    let scene = c.in_ok-scene.scene.value in
    let row : List ℕ = c.renumbered-row.result.items in
    let more = c.in_ok-number.ensures.more in
    let at : views.part ≡ 0 = more.part ∙ ap (λ (v : Views). v.part) c.none_before-views.ensures.none in
    let none : all_shown plan date views ≡ [] =
    ap (map (shown_among plan date views)) (more.rows ∙ ap (λ (v : Views). v.rows) c.none_before-views.ensures.none) in
    put_among_none (all_shown plan date views) (shown_among plan date views c.view_of.result.row.items) c.in_ok-put.field-0
    (all_shown plan date c.put.new.views) none c.in_ok-put.ensures.put
    ∙ ap (λ (v : View). v ∷ []) (ap (λ (r : Vec ℕ Global). shown_among plan date views r.items) c.view_of.ensures.row
    ∙ first_shown plan date c.args.self.now.plain.store.now views scene c.in_ok-number.number c.in_ok-blank_row.field-0.items row at
    c.in_ok-number.ensures.there
    c.in_ok-blank_row.ensures.blank.zeros c.renumbered-row.ensures c.in_ok-scene.ensures.store c.in_ok-scene.ensures.nothing.0 c.in_ok-scene.ensures.nothing.1)
