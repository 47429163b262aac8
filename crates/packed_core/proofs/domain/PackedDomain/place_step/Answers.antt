use Rattle.std.proofs.Common.{◌≡◌, ◌∙◌, ◌+◌, ℕ, Result, ap, subst, sym}
use Rattle.std.proofs.lemmas.Option.{same_Some}
use Rattle.jcl_plan.specs.declared.plan.JobPlan.{JobPlan}
use Rattle.jcl_plan.specs.declared.plan.StepPlan.{StepPlan}
use Rattle.jcl_meaning.specs.States.{Fixed}
use Rattle.view_domain.specs.declared.crossed.Stop.{Stop}
use Rattle.view_core.specs.declared.legs.Legs.{Legs}
use Rattle.view_core.specs.declared.legs.Legs.TheVariants as legs
use Rattle.view_core.specs.declared.scene.Scene.{Scene}
use Rattle.view_core.specs.Legs.{AreLegs, HasMade}
use Rattle.packed_core.specs.Placed.{StandsIn}
use Rattle.packed_core.specs.Views.{Views}
use Rattle.packed_core.proofs.Led.{placed_still}
use Rattle.packed_core.proofs.domain.PackedDomain.place_step.Goals as goal

pub returns-in_ok-new-in-Ended-clause-placed : goal.returns-in_ok-new-in-Ended-clause-placed
returns-in_ok-new-in-Ended-clause-placed g c scene at =
    let plan : JobPlan = g.J.Job.plan in
    let fixed : Fixed = g.J.Job.fixed in
    let k : ℕ = c.args.before.now.part in
    let step : StepPlan = c.args.step.now in
    let abended = c.args.abended in
    let one : Scene = c.deref-scene.result.now in
    let same : one ≡ scene = c.deref-scene.ensures ∙ same_Some c.scene.result.now.value scene (sym c.scene.ensures ∙ at) in
    let here : c.before-2.inside.part ≡ k = ap (λ (v : Views). v.part) c.before-2.view_is in
    let legs_are : AreLegs fixed (k + 1) step scene abended (legs.Ended c.in-Ended.made c.in-Ended.by_code c.in-Ended.by_abend) =
    subst (λ (l : Legs). AreLegs fixed (k + 1) step scene abended l) c.in-Ended.is
    (subst (λ (s : Scene). AreLegs fixed (k + 1) step s abended c.in_ok-legs.legs) same
    (subst (λ (m : ℕ). AreLegs fixed (m + 1) step one abended c.in_ok-legs.legs) here
    (subst (λ (f : Fixed). AreLegs f (c.before-2.inside.part + 1) step one abended c.in_ok-legs.legs) c.args.self.now.so_fixed c.in_ok-legs.ensures))) in
    let between : Views = c.place_end.new.behind in
    let behind : Views = c.place_end-in-Ended.new.behind in
    let more = c.in_ok-abend-in-Ended.ensures.more in
    let stands_at : behind.part ≡ k + 1 = more.part ∙ c.in_ok-code-in-Ended.ensures.more.part ∙ c.requires.behind in
    let end : Result Scene Stop = c.in-Ended.by_code in
    let abend_end : Result Scene Stop = c.in-Ended.by_abend in
    let code : Result ℕ Stop = c.in_ok-code-in-Ended.code in
    let abend : Result ℕ Stop = c.in_ok-abend-in-Ended.abend in (
      subst (HasMade fixed (k + 1) step scene abended) (sym (c.in_ok-new-in-Ended.ensures ∙ c.new.ensures)) legs_are.0,
      record {
        end = end;
        ended = legs_are.1;
        stands = subst (λ (m : ℕ). StandsIn plan fixed.date m behind.scenes end code) stands_at
            (placed_still plan fixed.date between behind end code more c.in_ok-code-in-Ended.ensures.placed);
      },
      record {
        end = abend_end;
        ended = legs_are.2;
        stands = subst (λ (m : ℕ). StandsIn plan fixed.date m behind.scenes abend_end abend) stands_at c.in_ok-abend-in-Ended.ensures.placed;
      },
    )
