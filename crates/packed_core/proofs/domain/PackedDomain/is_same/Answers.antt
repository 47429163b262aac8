use Rattle.std.proofs.Common.{◌≡◌, ◌∙◌, ℕ, List, ap, drop, sym, take}
use Rattle.jcl_plan.specs.declared.plan.JobPlan.{JobPlan}
use Rattle.jcl_plan.specs.declared.plan.StepPlan.{StepPlan}
use Rattle.jcl_meaning.specs.declared.names.HeldName.{HeldName}
use Rattle.jcl_meaning.specs.Names.{names_of}
use Rattle.jcl_meaning.specs.States.{Fixed}
use Rattle.view_core.specs.declared.scene.Scene.{Scene}
use Rattle.view_core.specs.Same.{shown_alone}
use Rattle.packed_core.specs.Shown.{alone}
use Rattle.packed_core.proofs.Unasked.{without_rest}
use Rattle.packed_core.proofs.domain.PackedDomain.is_same.Goals as goal

pub returns : goal.returns
returns g c =
    let own = c.args.self.now in
    let part : ℕ = c.args.part in
    let plan : JobPlan = own.plain.plan.now in
    let names : List HeldName = own.plain.names.now in
    let date : ℕ = own.plain.given.date in
    let later : c.drop_first-later.result.now ≡ drop part (take own.asked plan.steps) =
    c.drop_first-later.ensures ∙ ap (drop part) (c.take_first-asking.ensures ∙ ap (take own.asked) c.as_slice.ensures) in
    let named : names ≡ names_of g.J.Job.plan = own.plain.named ∙ ap names_of own.planned in
    let dated : date ≡ g.J.Job.fixed.date = ap (λ (f : Fixed). f.date) own.so_fixed in
    let shown : (s : Scene) → shown_alone names date c.drop_first-later.result.now s ≡ alone g.J.Job.plan g.J.Job.fixed.date part s =
    λ s. ap (λ (l : List StepPlan). shown_alone names date l s) later ∙ without_rest plan.steps own.asked part s own.asking names date
    ∙ (λ i. shown_alone (named i) (dated i) (drop part (own.planned i).steps) s) in
    let a : Scene = c.args.a.now in
    let b : Scene = c.args.b.now in
    (λ e. sym (shown a) ∙ c.same_before.ensures.0 e ∙ shown b, λ e. c.same_before.ensures.1 (shown a ∙ e ∙ sym (shown b)))
