use Rattle.std.proofs.Common.{◌≡◌, ◌+◌, ◌∙◌, List, ap, length, refl, subst, sym}
use Rattle.disp_core.specs.Courses.{fixed_by}
use Rattle.jcl_plan.specs.declared.outcome.Outcome.TheVariants as outcome
use Rattle.jcl_plan.specs.declared.plan.StepPlan.{StepPlan}
use Rattle.jcl_plan.specs.declared.plan.Test.{Test}
use Rattle.jcl_meaning.specs.States.{Fixed}
use Rattle.view_core.specs.declared.legs.Legs.TheVariants as legs
use Rattle.view_core.specs.declared.scene.Scene.{Scene}
use Rattle.view_core.specs.Bits.{bits_kept, kept_tests}
use Rattle.view_core.specs.Domains.{shown_before}
use Rattle.view_core.specs.Legs.{AreLegs, HasMade}
use Rattle.view_core.specs.Moves.{BranchesByAbend, BranchesByCode}
use Rattle.view_core.specs.Shows.{shows}
use Rattle.view_core.proofs.Told.{abend_told, code_told, crossed_ended, crossed_refused, legs_as}
use Rattle.view_core.proofs.domain.PlainDomain.cross_running.Goals as goal

pub returns-in-Refused : goal.returns-in-Refused
returns-in-Refused c =
    let domain = c.args.self.now in
    let fixed : Fixed = fixed_by domain.given in
    let step : StepPlan = c.args.step.now in
    let v = c.args.view.now in
    let legs_are : AreLegs fixed (c.args.part + 1) step v.scene.value v.abended (legs.Refused c.in-Refused.stop) =
    legs_as fixed (c.args.part + 1) step v.abended c.deref.result.now v.scene.value c.in_ok-stop.field-0 (legs.Refused c.in-Refused.stop) c.deref.ensures
    c.in-Refused.is c.in_ok-stop.ensures in
    λ there. crossed_refused (shown_before domain (c.args.part + 1)) domain.plan.now fixed c.args.part step c.args.later.now c.requires.step domain.tested (shows v) c.requires.runs
    c.in-Refused.stop there legs_are

pub returns : goal.returns
returns c =
    let domain = c.args.self.now in
    let fixed : Fixed = fixed_by domain.given in
    let step : StepPlan = c.args.step.now in
    let later : List StepPlan = c.args.later.now in
    let v = c.args.view.now in
    let end = c.in-Ended.by_code in
    let abend_end = c.in-Ended.by_abend in
    let legs_are : AreLegs fixed (c.args.part + 1) step v.scene.value v.abended (legs.Ended c.in-Ended.made end abend_end) =
    legs_as fixed (c.args.part + 1) step v.abended c.deref.result.now v.scene.value c.in_ok-stop.field-0 (legs.Ended c.in-Ended.made end abend_end)
    c.deref.ensures c.in-Ended.is c.in_ok-stop.ensures in
    let kept : c.as_slice-2.result.now ≡ kept_tests domain.plan.now.tests.items later =
    c.as_slice-2.ensures.value ∙ c.in_ok-kept.ensures ∙ ap (λ (tests : List Test). kept_tests tests later) c.as_slice.ensures.value in
    let branches : BranchesByCode (c.args.part + 1) (kept_tests domain.plan.now.tests.items later)
    (bits_kept (length domain.plan.now.tests.items) (length step.tests.items) v.met.items) v.abended end c.in_ok-by_code.by_code =
    subst (λ tests. BranchesByCode (c.args.part + 1) tests
    (bits_kept (length domain.plan.now.tests.items) (length step.tests.items) v.met.items) v.abended end c.in_ok-by_code.by_code) kept
    (subst (λ bits. BranchesByCode (c.args.part + 1) c.as_slice-2.result.now bits v.abended end c.in_ok-by_code.by_code)
    (c.as_slice-3.ensures.value ∙ c.requires.bits) c.in_ok-by_code.ensures) in
    let abend_branches : BranchesByAbend (bits_kept (length domain.plan.now.tests.items) (length step.tests.items) v.met.items)
    abend_end c.in_ok-by_abend.by_abend =
    subst (λ bits. BranchesByAbend bits abend_end c.in_ok-by_abend.by_abend) c.requires.bits c.in_ok-by_abend.ensures in
    λ there. crossed_ended (shown_before domain (c.args.part + 1)) domain.plan.now fixed c.args.part step later c.requires.step domain.tested (shows v) c.requires.runs
    c.in_ok-new.field-0 end abend_end c.in_ok-by_code.by_code c.in_ok-by_abend.by_abend there
    (subst (HasMade fixed (c.args.part + 1) step v.scene.value v.abended) (sym (c.in_ok-new.ensures ∙ c.new.ensures)) legs_are.0) legs_are.1
    (code_told domain.plan.now fixed.date (c.args.part + 1) there (c.args.part + 1) _ _ v.abended end c.in_ok-by_code.by_code branches)
    legs_are.2 (abend_told domain.plan.now fixed.date (c.args.part + 1) there _ abend_end c.in_ok-by_abend.by_abend abend_branches)
