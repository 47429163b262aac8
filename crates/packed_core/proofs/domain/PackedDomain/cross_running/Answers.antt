use Rattle.std.proofs.Common.{◌≡◌, ◌∙◌, ◌+◌, ℕ, Bool, List, ap, get_or, subst, sym}
use Rattle.std.specs.Prelude.{Result, slice_get}
use Rattle.jcl_plan.specs.declared.plan.JobPlan.{JobPlan}
use Rattle.jcl_plan.specs.declared.plan.StepPlan.{StepPlan}
use Rattle.jcl_meaning.specs.States.{Fixed}
use Rattle.view_domain.specs.declared.crossed.Stop.{Stop}
use Rattle.view_core.specs.declared.scene.Scene.{Scene}
use Rattle.packed_core.specs.declared.placed.Placed.{Placed}
use Rattle.packed_core.specs.declared.placed.Placed.TheVariants as placed
use Rattle.packed_core.specs.Crossing.{IsPlaced, LeadsByCode}
use Rattle.packed_core.specs.Placed.{ArePlaced, StandsIn}
use Rattle.packed_core.specs.Rooms.{room_at}
use Rattle.packed_core.specs.Views.{HasMoreScenes, Views}
use Rattle.packed_core.specs.Ways.{AreWays}
use Rattle.packed_core.specs.Words.{IsRow, bit}
use Rattle.packed_core.proofs.Led.{abend_as, led_ended, led_refused}
use Rattle.packed_core.proofs.domain.PackedDomain.cross_running.Goals as goal

pub branch_by_code-requires-clause-ways : goal.branch_by_code-requires-clause-ways
branch_by_code-requires-clause-ways g c =
    subst (λ (w : Views). AreWays g.J.Job.plan w.part w.rows c.in_ok-ways-in-Ended.ways) (sym c.in_ok-ways-in-Ended.ensures.same)
    c.in_ok-ways-in-Ended.ensures.ways

pub branch_by_code-requires-clause-row : goal.branch_by_code-requires-clause-row
branch_by_code-requires-clause-row g c =
    let at : c.take_ways.new.behind.part ≡ c.args.before.now.part + 1 =
    ap (λ (w : Views). w.part) c.in_ok-ways-in-Ended.ensures.same ∙ c.in_ok-placed.ensures.behind.part ∙ c.requires.behind in
    subst (λ (n : ℕ). IsRow (room_at g.J.Job.plan n) c.args.row.items) (sym at) c.requires.row

pub returns-in-Refused-clause-crossed : goal.returns-in-Refused-clause-crossed
returns-in-Refused-clause-crossed g c v names passed runs =
    let plan : JobPlan = g.J.Job.plan in
    let fixed : Fixed = g.J.Job.fixed in
    let before : Views = c.args.before.now in
    let step : StepPlan = c.args.step.now in
    let row : List ℕ = c.args.row.items in
    let job_tests : fixed.job_tests ≡ plan.tests.items =
    sym (ap (λ (f : Fixed). f.job_tests) c.args.self.now.so_fixed) ∙ c.args.self.now.plain.tested
    ∙ ap (λ (p : JobPlan). p.tests.items) c.args.self.now.planned in
    let n_is : c.number_in-n.result ≡ get_or row 0 0 = c.number_in-n.ensures ∙ ap (λ (l : List ℕ). get_or l 0 0) c.as_slice.ensures.value in
    let abended : c.bit_of-abended.result ≡ v.abended = c.bit_of-abended.ensures ∙ ap (λ (l : List ℕ). bit l 0) c.as_slice-2.ensures.value ∙ passed.abended in
    let there : List Scene = c.step_placed.new.behind.scenes in
    let said : ArePlaced plan fixed before.part there step v.scene c.bit_of-abended.result c.in_ok-placed.placed =
    c.in_ok-placed.ensures.placed v.scene (ap (slice_get before.scenes) n_is ∙ names) in
    let placed_are : ArePlaced plan fixed before.part there step v.scene v.abended (placed.Refused c.in-Refused.stop) =
    subst (λ (p : Placed). ArePlaced plan fixed before.part there step v.scene v.abended p) c.in-Refused.is
    (subst (λ (b : Bool). ArePlaced plan fixed before.part there step v.scene b c.in_ok-placed.placed) abended said) in
    led_refused _ plan fixed before.part step c.args.later.now c.requires.step job_tests v c.step_placed.new.behind
    (c.in_ok-placed.ensures.behind.part ∙ c.requires.behind) runs c.in-Refused.stop placed_are

pub returns-in_ok-by_abend-in-Ended-clause-crossed : goal.returns-in_ok-by_abend-in-Ended-clause-crossed
returns-in_ok-by_abend-in-Ended-clause-crossed g c v names passed runs =
    let plan : JobPlan = g.J.Job.plan in
    let fixed : Fixed = g.J.Job.fixed in
    let before : Views = c.args.before.now in
    let step : StepPlan = c.args.step.now in
    let row : List ℕ = c.args.row.items in
    let job_tests : fixed.job_tests ≡ plan.tests.items =
    sym (ap (λ (f : Fixed). f.job_tests) c.args.self.now.so_fixed) ∙ c.args.self.now.plain.tested
    ∙ ap (λ (p : JobPlan). p.tests.items) c.args.self.now.planned in
    let n_is : c.number_in-n.result ≡ get_or row 0 0 = c.number_in-n.ensures ∙ ap (λ (l : List ℕ). get_or l 0 0) c.as_slice.ensures.value in
    let abended : c.bit_of-abended.result ≡ v.abended = c.bit_of-abended.ensures ∙ ap (λ (l : List ℕ). bit l 0) c.as_slice-2.ensures.value ∙ passed.abended in
    let there : List Scene = c.step_placed.new.behind.scenes in
    let said : ArePlaced plan fixed before.part there step v.scene c.bit_of-abended.result c.in_ok-placed.placed =
    c.in_ok-placed.ensures.placed v.scene (ap (slice_get before.scenes) n_is ∙ names) in
    let placed_are : ArePlaced plan fixed before.part there step v.scene v.abended (placed.Ended c.in-Ended.made c.in-Ended.by_code c.in-Ended.by_abend) =
    subst (λ (p : Placed). ArePlaced plan fixed before.part there step v.scene v.abended p) c.in-Ended.is
    (subst (λ (b : Bool). ArePlaced plan fixed before.part there step v.scene b c.in_ok-placed.placed) abended said) in
    let placed : Views = c.step_placed.new.behind in
    let taken : Views = c.take_ways.new.behind in
    let behind : Views = c.keep_ways.new.self in
    let same_taken : taken ≡ placed = c.in_ok-ways-in-Ended.ensures.same in
    let same_kept : behind ≡ taken = c.keep_ways.ensures.same in
    let placed_at : placed.part ≡ before.part + 1 = c.in_ok-placed.ensures.behind.part ∙ c.requires.behind in
    let at : behind.part ≡ before.part + 1 = ap (λ (w : Views). w.part) (same_kept ∙ same_taken) ∙ placed_at in
    let end : Result Scene Stop = placed_are.1.end in
    let abend_end : Result Scene Stop = placed_are.2.end in
    let by_code = c.in_ok-by_code-in-Ended.by_code in
    let by_abend = c.in_ok-by_abend-in-Ended.by_abend in
    led_ended _ plan fixed before.part step c.args.later.now c.requires.step job_tests v behind at row passed runs c.in-Ended.made end abend_end
    by_code by_abend placed_are.0 placed_are.1.ended placed_are.2.ended
    (subst (λ (w : Views). LeadsByCode (λ v. v.row.items) plan fixed.date w row end by_code) (sym same_kept)
    (c.in_ok-by_code-in-Ended.ensures.leads end (subst (λ (w : Views). IsPlaced plan fixed.date w end c.in-Ended.by_code) (sym same_taken)
    (subst (λ (m : ℕ). StandsIn plan fixed.date m there end c.in-Ended.by_code) (sym placed_at) placed_are.1.stands))))
    (abend_as (λ w. w.row.items) plan fixed.date behind row c.in_ok-by_code-in-Ended.row.items c.in_ok-by_code-in-Ended.ensures.row.1 abend_end by_abend
    (c.in_ok-by_abend-in-Ended.ensures.leads abend_end
    (subst (λ (w : Views). IsPlaced plan fixed.date w abend_end c.in-Ended.by_abend) (sym (same_kept ∙ same_taken))
    (subst (λ (m : ℕ). StandsIn plan fixed.date m there abend_end c.in-Ended.by_abend) (sym placed_at) placed_are.2.stands))))

pub returns-in_ok-by_abend-in-Ended-clause-behind : goal.returns-in_ok-by_abend-in-Ended-clause-behind
returns-in_ok-by_abend-in-Ended-clause-behind g c =
    subst (HasMoreScenes c.args.behind.now) (sym (c.keep_ways.ensures.same ∙ c.in_ok-ways-in-Ended.ensures.same)) c.in_ok-placed.ensures.behind
