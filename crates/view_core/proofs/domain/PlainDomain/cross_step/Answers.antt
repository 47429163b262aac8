use Rattle.std.proofs.Common.{◌≡◌, ◌+◌, ◌∙◌, ap, length}
use Rattle.disp_core.specs.Courses.{fixed_by}
use Rattle.jcl_meaning.specs.States.{Fixed}
use Rattle.view_core.specs.Bits.{bits_kept, fate_shown}
use Rattle.view_core.specs.PlainViews.{shown_parts}
use Rattle.view_core.specs.Domains.{shown_before}
use Rattle.view_core.specs.Shows.{shows}
use Rattle.view_core.proofs.Told.{crossed_passed}
use Rattle.view_core.proofs.domain.PlainDomain.cross_step.Goals as goal

pub returns-in_ok-clone-in_default : goal.returns-in_ok-clone-in_default
returns-in_ok-clone-in_default c =
    let domain = c.args.self.now in
    let fixed : Fixed = fixed_by domain.given in
    let step = c.args.step.now in
    let v = c.args.view.now in
    let tells : c.fate_of-fate.result ≡ fate_shown (length domain.plan.now.tests.items) step (shows v) =
    c.fate_of-fate.ensures ∙ ap (λ tests. fate_shown (length tests) step (shows v)) c.as_slice-tests.ensures.value in
    let met : c.in_ok-bits.bits.items ≡ bits_kept (length domain.plan.now.tests.items) (length step.tests.items) v.met.items =
    c.in_ok-bits.ensures
    ∙ (λ i. bits_kept (length (c.as_slice-tests.ensures.value i)) (length (c.as_slice-own.ensures.value i)) (c.as_slice.ensures.value i)) in
    λ there. crossed_passed (shown_before domain (c.args.part + 1)) domain.plan.now fixed c.args.part step c.args.later.now c.requires.step domain.tested (shows v) c.fate_of-fate.result _ tells
    (λ e. c.in_default.not-Run (tells ∙ e))
    (λ i. shown_parts domain.plan.now fixed.date (c.args.part + 1) (c.in_ok-clone-in_default.ensures.cases i) v.abended (met i)) there
