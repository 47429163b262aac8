use Rattle.std.proofs.Common.{◌≡◌, ◌∙◌, ◌≤◌, ℕ, List, [], ap, drop, sym, subst}
use Rattle.jcl_plan.specs.declared.plan.JobPlan.{JobPlan}
use Rattle.jcl_meaning.specs.declared.state.DdVolume.{DdVolume}
use Rattle.jcl_meaning.specs.Names.{names_of}
use Rattle.jcl_meaning.specs.States.{Fixed}
use Rattle.view_core.specs.declared.scene.Scene.{Scene}
use Rattle.packed_core.specs.Asking.{AskUpTo}
use Rattle.packed_core.specs.Shown.{alone}
use Rattle.packed_core.proofs.Unasked.{without_volumes}
use Rattle.packed_core.proofs.domain.PackedDomain.lean.Goals as goal

pub returns : goal.returns
returns g c =
    let own = c.args.self.now in
    let plan : JobPlan = g.J.Job.plan in
    let date : ℕ = g.J.Job.fixed.date in
    let s : Scene = c.args.scene in
    ap (λ (v : List DdVolume). alone plan date c.args.part (record { store = s.store; passed = s.passed; volumes = v })) c.empty.ensures
    ∙ without_volumes plan.steps own.asked c.args.part s c.if-part-self.false (subst (λ (p : JobPlan). AskUpTo p.steps own.asked) own.planned own.asking) (names_of plan) date
