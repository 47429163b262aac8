use Rattle.std.proofs.Common.{◌≡◌, ◌++◌, ◌∷◌, ◌∙◌, ◌<◌, ℕ, List, [], ap, arith, get_or, length, subst, sym}
use Rattle.std.specs.Prelude.{OnOk}
use Rattle.std.proofs.lemmas.List.{length-map}
use Rattle.jcl_plan.specs.declared.plan.JobPlan.{JobPlan}
use Rattle.view_core.specs.declared.scene.Scene.{Scene}
use Rattle.packed_core.specs.Entries.{Entry, scenes_of}
use Rattle.packed_core.specs.Rooms.{room_at}
use Rattle.packed_core.specs.Rows.{has_row}
use Rattle.packed_core.specs.Shown.{AreApart}
use Rattle.packed_core.specs.Views.{AreRows, Views}
use Rattle.packed_core.specs.Words.{IsRow}
use Rattle.packed_core.proofs.Putting.{put_new, put_stood}
use Rattle.packed_core.proofs.Skipping.{ways_pushed}
use Rattle.packed_core.proofs.Standing.{each_pushed}
use Rattle.packed_core.proofs.domain.PackedDomain.put.Goals as goal

pub returns-then-has-clause-put : goal.returns-then-has-clause-put
returns-then-has-clause-put g c =
    let row : List ℕ = c.args.view.row.items in
    let views : Views = c.args.views.now in
    let rows : c.views.inside.rows ≡ views.rows = ap (λ (v : Views). v.rows) c.views.view_is in
    let told : c.has.result ≡ has_row row c.views.inside.rows = c.has.ensures ∙ ap (λ (l : List ℕ). has_row l c.views.inside.rows) c.as_slice-words.ensures.value in
    put_stood g.J.Job.plan g.J.Job.fixed.date views row (ap (has_row row) (sym rows) ∙ sym told ∙ c.if-has.true)

pub invariant_of-views-2 : goal.invariant_of-views-2
invariant_of-views-2 g c =
    let plan : JobPlan = g.J.Job.plan in
    let row : List ℕ = c.args.view.row.items in
    let entries : List Entry = c.views.inside.entries.items in
    let part : c.args.view.part ≡ c.views.inside.part = omega (arith, c.if-part-views.false) in
    let number : c.number_in-number.result ≡ get_or row 0 0 = c.number_in-number.ensures ∙ ap (λ (l : List ℕ). get_or l 0 0) c.as_slice-words.ensures.value in
    let named : get_or row 0 0 < length entries = omega (arith, c.if-number-len.false, c.len.ensures, number) in
    let is = c.views.invariant in
    let put : OnOk c.push.result (c.push.new.self ≡ c.views.inside.rows ++ row ∷ []) =
    subst (λ (l : List ℕ). OnOk c.push.result (c.push.new.self ≡ c.views.inside.rows ++ l ∷ [])) c.as_slice-words.ensures.value c.push.ensures.put in
    record {
      roomed = is.roomed;
      small = is.small;
      apart = is.apart;
      sighted = is.sighted;
      so_known = is.so_known;
      are_rows = record {
        numbered = each_pushed c.push.result (λ (l : List ℕ). get_or l 0 0 < length entries) c.views.inside.rows c.push.new.self row
            put c.push.ensures.kept
            is.are_rows.numbered named;
        packed = each_pushed c.push.result (IsRow (room_at plan c.views.inside.part)) c.views.inside.rows c.push.new.self row
            put c.push.ensures.kept is.are_rows.packed (subst (λ (n : ℕ). IsRow (room_at plan n) row) part c.args.view.packed);
      };
      are_ways = ways_pushed c.push.result plan c.views.inside.part c.views.inside.rows c.push.new.self row c.views.inside.ways
          put c.push.ensures.kept is.are_ways;
    }

pub returns-clause-put : goal.returns-clause-put
returns-clause-put g c =
    let plan : JobPlan = g.J.Job.plan in
    let date : ℕ = g.J.Job.fixed.date in
    let row : List ℕ = c.args.view.row.items in
    let views : Views = c.args.views.now in
    let entries : List Entry = c.views.inside.entries.items in
    let new : Views = record { part = c.views.inside.part; scenes = scenes_of entries; rows = c.push.new.self } in
    let part : c.args.view.part ≡ c.views.inside.part = omega (arith, c.if-part-views.false) in
    let at : c.views.inside.part ≡ views.part = ap (λ (v : Views). v.part) c.views.view_is in
    let scenes : scenes_of entries ≡ views.scenes = ap (λ (v : Views). v.scenes) c.views.view_is in
    let rows : c.views.inside.rows ≡ views.rows = ap (λ (v : Views). v.rows) c.views.view_is in
    let many : length (scenes_of entries) ≡ length entries = length-map entries (λ (e : Entry). e.scene) in
    let number : c.number_in-number.result ≡ get_or row 0 0 = c.number_in-number.ensures ∙ ap (λ (l : List ℕ). get_or l 0 0) c.as_slice-words.ensures.value in
    let named : get_or row 0 0 < length views.scenes =
    omega (arith, c.if-number-len.false, c.len.ensures, number, many, ap (λ (l : List Scene). length l) scenes) in
    let told : c.has.result ≡ has_row row c.views.inside.rows =
    c.has.ensures ∙ ap (λ (l : List ℕ). has_row l c.views.inside.rows) c.as_slice-words.ensures.value in
    put_new plan date views row new at scenes (c.in_ok-push.ensures.put ∙ (λ i. rows i ++ c.as_slice-words.ensures.value i ∷ []))
    (ap (has_row row) (sym rows) ∙ sym told ∙ c.if-has.false)
    (subst (λ (v : Views). AreApart plan date v.part v.scenes) c.views.view_is c.views.invariant.apart)
    (subst (λ (v : Views). AreRows plan v.part (length v.scenes) v.rows) c.views.view_is
    (subst (λ (n : ℕ). AreRows plan c.views.inside.part n c.views.inside.rows) (sym many) c.views.invariant.are_rows))
    (subst (λ (n : ℕ). IsRow (room_at plan n) row) (part ∙ at) c.args.view.packed) named
