use Rattle.std.proofs.Common.{◌≡◌, ◌∙◌, ℕ, List, Option, Some, ap, subst, sym}
use Rattle.std.specs.Prelude.{IfSome, slice_get}
use Rattle.jcl_plan.specs.declared.plan.JobPlan.{JobPlan}
use Rattle.jcl_meaning.specs.States.{Fixed}
use Rattle.view_core.specs.declared.scene.Scene.{Scene}
use Rattle.packed_core.specs.Entries.{scenes_of}
use Rattle.packed_core.specs.Placed.{AreKnown, IsPlacedAt}
use Rattle.packed_core.specs.Sights.{Sight}
use Rattle.packed_core.specs.Views.{Views}
use Rattle.packed_core.proofs.views.PackedViews.note_placed.Goals as goal

pub keep_known-requires-clause-known : goal.keep_known-requires-clause-known
keep_known-requires-clause-known g c =
    let plan : JobPlan = g.J.Job.plan in
    let fixed : Fixed = g.J.Job.fixed in
    let front : Views = c.args.before.now in
    let behind : List Scene = c.args.self.now.scenes in
    let sight : Sight = c.in-Some.sight in
    let told : sight ≡ record { part = front.part; scenes = front.scenes } =
    subst (λ (o : Option Sight). IfSome o (λ s. s ≡ record { part = c.before-2.inside.part; scenes = scenes_of c.before-2.inside.entries.items })) c.in-Some.is
    c.before-2.invariant.sighted ∙ ap (λ (v : Views). record { part = v.part; scenes = v.scenes }) c.before-2.view_is in
    let so : (scene : Scene) → slice_get sight.scenes c.args.n ≡ Some scene → IsPlacedAt plan fixed sight.part behind scene c.args.abended c.args.placed =
    λ scene at. subst (λ (k : ℕ). IsPlacedAt plan fixed k behind scene c.args.abended c.args.placed) (sym (ap (λ (s : Sight). s.part) told))
    (c.requires.so scene (ap (λ (s : Sight). slice_get s.scenes c.args.n) (sym told) ∙ at)) in
    subst (λ (s : Sight). AreKnown plan fixed s.part s.scenes c.take_known-known.new.self.scenes c.put_placed.new.self) (sym c.again.ensures)
    (subst (λ (l : List Scene). AreKnown plan fixed sight.part sight.scenes l c.put_placed.new.self) (sym (ap (λ (v : Views). v.scenes) c.take_known-known.ensures.same))
    (c.in_ok-put_placed.ensures plan fixed sight.part sight.scenes behind c.take_known-known.ensures.known so))
