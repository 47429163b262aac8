use Rattle.std.proofs.Common.{◌≡◌, ◌∙◌, ◌+◌, ℕ, List, Vec, ap, get_or, sym}
use Rattle.std.specs.Global.{Global}
use Rattle.std.specs.Prelude.{slice_get}
use Rattle.jcl_plan.specs.declared.plan.JobPlan.{JobPlan}
use Rattle.jcl_meaning.specs.States.{Fixed}
use Rattle.packed_core.specs.Views.{Views}
use Rattle.packed_core.specs.Words.{bit}
use Rattle.packed_core.proofs.Led.{led_passed}
use Rattle.packed_core.proofs.domain.PackedDomain.cross_idle.Goals as goal

pub returns-clause-crossed : goal.returns-clause-crossed
returns-clause-crossed g c step is v names passed tells =
    let plan : JobPlan = g.J.Job.plan in
    let fixed : Fixed = g.J.Job.fixed in
    let before : Views = c.args.before.now in
    let behind : Views = c.idle_placed.new.behind in
    let row : List ℕ = c.args.row.items in
    let number : ℕ = c.in_ok-number.number in
    let job_tests : fixed.job_tests ≡ plan.tests.items =
    sym (ap (λ (f : Fixed). f.job_tests) c.args.self.now.so_fixed) ∙ c.args.self.now.plain.tested
    ∙ ap (λ (p : JobPlan). p.tests.items) c.args.self.now.planned in
    let at : behind.part ≡ before.part + 1 = c.in_ok-number.ensures.behind.part ∙ c.requires.behind in
    let n_is : c.number_in-n.result ≡ get_or row 0 0 = c.number_in-n.ensures ∙ ap (λ (l : List ℕ). get_or l 0 0) c.as_slice.ensures.value in
    led_passed _ plan fixed before.part step is.0 is.1 job_tests v behind at row passed c.args.fate c.view_of-view.result tells c.requires.idle number
    (c.in_ok-number.ensures.there v.scene (ap (slice_get before.scenes) n_is ∙ names))
    (ap (λ (r : Vec ℕ Global). get_or r.items 0 0) c.view_of-view.ensures.row ∙ c.renumbered.ensures.first)
    (λ i. ap (λ (r : Vec ℕ Global). bit r.items i) c.view_of-view.ensures.row ∙ c.renumbered.ensures.bits i)
