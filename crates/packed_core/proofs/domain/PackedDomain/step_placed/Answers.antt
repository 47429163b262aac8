use Rattle.std.proofs.Common.{◌≡◌, ◌∙◌, Some, ap, subst, sym}
use Rattle.std.specs.Prelude.{slice_get}
use Rattle.jcl_plan.specs.declared.plan.JobPlan.{JobPlan}
use Rattle.jcl_meaning.specs.States.{Fixed}
use Rattle.view_core.specs.declared.scene.Scene.{Scene}
use Rattle.packed_core.specs.declared.placed.Placed.{Placed}
use Rattle.packed_core.specs.Placed.{ArePlaced, IsPlacedAt}
use Rattle.packed_core.specs.Views.{Views}
use Rattle.packed_core.proofs.Placing.{ok_each, placed_at}
use Rattle.packed_core.proofs.domain.PackedDomain.step_placed.Goals as goal

pub returns-in-Some-clause-placed : goal.returns-in-Some-clause-placed
returns-in-Some-clause-placed g c =
    let plan : JobPlan = g.J.Job.plan in
    let fixed : Fixed = g.J.Job.fixed in
    let front : Views = c.args.before.now in
    let behind : Views = c.args.behind.now in
    ok_each c.placed_again.result (λ (scene : Scene). slice_get front.scenes c.args.n ≡ Some scene)
    (λ (scene : Scene) (it : Placed). ArePlaced plan fixed front.part behind.scenes c.args.step.now scene c.args.abended it)
    (λ scene at. c.placed_again.ensures plan fixed front.part behind.scenes c.args.step.now scene c.args.abended
    (c.in-Some.ensures scene at c.args.step.now c.requires.step.0 c.requires.step.1))

pub note_placed-requires-clause-so : goal.note_placed-requires-clause-so
note_placed-requires-clause-so g c scene at =
    let plan : JobPlan = g.J.Job.plan in
    let fixed : Fixed = g.J.Job.fixed in
    let front : Views = c.args.before.now in
    let behind : Views = c.place_step.new.behind in
    let same : c.tell.new.self ≡ front = c.in_ok-tell.ensures.same in
    subst (λ (v : Views). IsPlacedAt plan fixed v.part behind.scenes scene c.args.abended c.in_ok-again.again) (sym same)
    (placed_at plan fixed front.part behind.scenes c.args.step.now scene c.args.abended c.in_ok-again.again c.requires.step
    (c.in_ok-again.ensures plan fixed front.part behind.scenes c.args.step.now scene c.args.abended
    (c.in_ok-placed.ensures.placed scene (ap (λ (v : Views). slice_get v.scenes c.args.n) (sym same) ∙ at))))
