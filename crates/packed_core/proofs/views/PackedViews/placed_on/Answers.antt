use Rattle.std.proofs.Common.{◌≡◌, ◌∙◌, ◌+◌, List, Option, ap, subst}
use Rattle.std.specs.Prelude.{IfSome}
use Rattle.view_core.specs.declared.scene.Scene.{Scene}
use Rattle.packed_core.specs.Entries.{scenes_of}
use Rattle.packed_core.specs.Placed.{AreKnown}
use Rattle.packed_core.specs.Sights.{Sight}
use Rattle.packed_core.specs.Views.{Views}
use Rattle.packed_core.proofs.Placing.{placed_here}
use Rattle.packed_core.proofs.views.PackedViews.placed_on.Goals as goal

pub returns-in-true : goal.returns-in-true
returns-in-true g c =
    let front : Views = c.args.before.now in
    let scenes : List Scene = scenes_of c.self.inside.entries.items in
    let told : c.in-Some.sight ≡ record { part = front.part; scenes = front.scenes } =
    subst (λ (o : Option Sight). IfSome o (λ s. s ≡ record { part = c.before-2.inside.part; scenes = scenes_of c.before-2.inside.entries.items })) c.in-Some.is
    c.before-2.invariant.sighted ∙ ap (λ (v : Views). record { part = v.part; scenes = v.scenes }) c.before-2.view_is in
    let known = subst (λ (o : Option Sight). IfSome o (λ s. (c.self.inside.part ≡ s.part + 1)
    × AreKnown g.J.Job.plan g.J.Job.fixed s.part s.scenes scenes c.self.inside.known)) c.in-Some-from.is c.self.invariant.so_known in
    placed_here g.J.Job.plan g.J.Job.fixed front.part c.args.n front.scenes scenes c.args.self.now.scenes c.in-Some.sight c.in-Some-from.from _
    c.self.inside.known.abended.items (λ it. it.now) c.abended_at.result told c.agrees.ensures known.1.abended
    (ap (λ (v : Views). v.scenes) c.self.view_is) c.abended_at.ensures c.args.abended c.in-true.is

pub returns-in-false : goal.returns-in-false
returns-in-false g c =
    let front : Views = c.args.before.now in
    let scenes : List Scene = scenes_of c.self.inside.entries.items in
    let told : c.in-Some.sight ≡ record { part = front.part; scenes = front.scenes } =
    subst (λ (o : Option Sight). IfSome o (λ s. s ≡ record { part = c.before-2.inside.part; scenes = scenes_of c.before-2.inside.entries.items })) c.in-Some.is
    c.before-2.invariant.sighted ∙ ap (λ (v : Views). record { part = v.part; scenes = v.scenes }) c.before-2.view_is in
    let known = subst (λ (o : Option Sight). IfSome o (λ s. (c.self.inside.part ≡ s.part + 1)
    × AreKnown g.J.Job.plan g.J.Job.fixed s.part s.scenes scenes c.self.inside.known)) c.in-Some-from.is c.self.invariant.so_known in
    placed_here g.J.Job.plan g.J.Job.fixed front.part c.args.n front.scenes scenes c.args.self.now.scenes c.in-Some.sight c.in-Some-from.from _
    c.self.inside.known.calm.items (λ it. it.now) c.calm_at.result told c.agrees.ensures known.1.calm
    (ap (λ (v : Views). v.scenes) c.self.view_is) c.calm_at.ensures c.args.abended c.in-false.is
