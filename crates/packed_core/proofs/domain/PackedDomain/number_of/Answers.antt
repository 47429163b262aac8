use Rattle.std.proofs.Common.{◌≡◌, inl, inr, ◌<◌, ◌∙◌, List, Some, ap, arith, length, sym}
use Rattle.std.specs.Prelude.{slice_get}
use Rattle.std.proofs.lemmas.Bool.{cases_lt}
use Rattle.std.proofs.lemmas.Bool.Decides.{not_from_Decides}
use Rattle.std.proofs.lemmas.Option.{same_Some}
use Rattle.view_core.specs.declared.scene.Scene.{Scene}
use Rattle.packed_core.specs.Entries.{Entry, scenes_of}
use Rattle.packed_core.specs.Shown.{alone}
use Rattle.packed_core.specs.Views.{Views}
use Rattle.packed_core.proofs.Places.{got_image, got_past, got_read}
use Rattle.packed_core.proofs.domain.PackedDomain.number_of.Goals as goal

pub returns-then-is_same : goal.returns-then-is_same
returns-then-is_same g c =
    let entry : Entry = c.index.result.now in
    let within : c.loop-n.n < length c.views.inside.entries.items = omega (arith, c.loop-n-test.true) in
    let at : slice_get c.views.inside.entries.items c.loop-n.n ≡ Some entry = got_read c.views.inside.entries.items c.loop-n.n entry within c.index.ensures in
    let scenes : c.args.views.now.scenes ≡ scenes_of c.views.inside.entries.items = sym (ap (λ (v : Views). v.scenes) c.views.view_is) in
    let part : c.args.views.now.part ≡ c.views.inside.part = sym (ap (λ (v : Views). v.part) c.views.view_is) in
    let scene : entry.scene ≡ c.deref.result.now = sym (ap (λ (e : Entry). e.scene) c.behind-views.view_is) ∙ sym c.deref.ensures in
    record {
      one = entry.scene;
      there = ap (λ (l : List Scene). slice_get l c.loop-n.n) scenes ∙ got_image (λ (e : Entry). e.scene) c.views.inside.entries.items c.loop-n.n entry at;
      same = (λ i. alone g.J.Job.plan g.J.Job.fixed.date (part i) (scene i)) ∙ c.is_same.ensures.0 c.if-is_same.true
          ∙ (λ i. alone g.J.Job.plan g.J.Job.fixed.date (sym part i) c.args.scene.now);
    }

pub loop-n-preserved : goal.loop-n-preserved
loop-n-preserved g c i w below at same =
    let entry : Entry = c.index.result.now in
    let within : c.loop-n.n < length c.views.inside.entries.items = omega (arith, c.loop-n-test.true) in
    let there : slice_get c.views.inside.entries.items c.loop-n.n ≡ Some entry =
    got_read c.views.inside.entries.items c.loop-n.n entry within c.index.ensures in
    let scenes : c.args.views.now.scenes ≡ scenes_of c.views.inside.entries.items = sym (ap (λ (v : Views). v.scenes) c.views.view_is) in
    let part : c.args.views.now.part ≡ c.views.inside.part = sym (ap (λ (v : Views). v.part) c.views.view_is) in
    let scene : entry.scene ≡ c.deref.result.now = sym (ap (λ (e : Entry). e.scene) c.behind-views.view_is) ∙ sym c.deref.ensures in
    elim (cases_lt i c.loop-n.n) [
      | inl h ↦ c.loop-n.invariant i w h at same
      | inr h ↦
          let is : i ≡ c.loop-n.n = omega arith in
          let one : entry.scene ≡ w = same_Some entry.scene w (sym (got_image (λ (e : Entry). e.scene) c.views.inside.entries.items c.loop-n.n entry there)
          ∙ ap (λ (l : List Scene). slice_get l c.loop-n.n) (sym scenes) ∙ ap (slice_get c.args.views.now.scenes) (sym is) ∙ at) in
          not_from_Decides c.is_same.result c.is_same.ensures c.if-is_same.false
          ((λ k. alone g.J.Job.plan g.J.Job.fixed.date (sym part k) ((sym scene ∙ one) k)) ∙ same
          ∙ (λ k. alone g.J.Job.plan g.J.Job.fixed.date (part k) c.args.scene.now))
    ]

pub returns : goal.returns
returns g c i w at =
    let scenes : c.args.views.now.scenes ≡ scenes_of c.views.inside.entries.items = sym (ap (λ (v : Views). v.scenes) c.views.view_is) in
    let below : i < length c.views.inside.entries.items = got_past (λ (e : Entry). e.scene) c.views.inside.entries.items i w
    (ap (λ (l : List Scene). slice_get l i) (sym scenes) ∙ at) in
    c.loop-n.invariant i w (omega (arith, c.loop-n-test.false, c.len-n-end.ensures)) at
