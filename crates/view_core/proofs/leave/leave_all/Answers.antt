use Rattle.std.proofs.Common.{[], refl, sym, ◌∙◌}
use Rattle.jcl_meaning.specs.Acts.{act}
use Rattle.jcl_meaning.specs.States.{Fixed}
use Rattle.disp_core.specs.Courses.{fixed_by}
use Rattle.view_core.specs.Lefts.{left_action}
use Rattle.view_core.specs.Walks.{state_of}
use Rattle.view_core.proofs.Leaving.{leaves_meet, leaves_more}
use Rattle.view_core.proofs.Runs.{run_nothing, run_one}
use Rattle.view_core.proofs.leave.leave_all.Goals as goal

pub loop-i-init : goal.loop-i-init
loop-i-init c = λ answers. run_nothing (fixed_by c.args.given.now) (state_of c.args.under.now answers)

pub returns-in-Some : goal.returns-in-Some
unfolding act
returns-in-Some c =
    let fixed : Fixed = fixed_by c.args.given.now in
    let l = c.index-lefts-i.result in (
      refl,
      λ answers. record {
        plan = l.plan.now;
        meets = leaves_meet fixed c.loop-i.i c.args.lefts.now l (state_of c.args.under.now answers) (state_of c.loop-i.under answers)
            c.loop-i-test.true c.index-lefts-i.is c.in-Some.fault (c.loop-i.invariant answers) (((c.in_ok-meets.ensures l.plan.now.kind (sym c.disp_text.ensures)).ok answers).its_fault ∙ c.in-Some.is);
      },
    )

pub loop-i-preserved : goal.loop-i-preserved
unfolding act
loop-i-preserved c =
    let fixed : Fixed = fixed_by c.args.given.now in
    let l = c.index-lefts-i.result in
    λ answers. leaves_more fixed c.loop-i.i c.args.lefts.now l (state_of c.args.under.now answers) (state_of c.loop-i.under answers)
    c.loop-i-test.true c.index-lefts-i.is (state_of (record { store = c.leave.new.store; course = c.leave.new.course }) answers) (c.loop-i.invariant answers)
    (let did = (c.in_ok-meets.ensures l.plan.now.kind (sym c.disp_text.ensures)).ok answers in
    run_one fixed (left_action l) (state_of c.loop-i.under answers) (state_of (record { store = c.leave.new.store; course = c.leave.new.course }) answers) []
    did.its_state (did.its_fault ∙ c.in_default.is) did.its_made)
