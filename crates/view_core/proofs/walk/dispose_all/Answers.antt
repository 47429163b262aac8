use Rattle.std.proofs.Common.{◌+◌, [], refl, sym, ◌∙◌}
use Rattle.jcl_meaning.specs.Acts.{act}
use Rattle.jcl_meaning.specs.Agendas.{Dispose}
use Rattle.jcl_meaning.specs.States.{Fixed}
use Rattle.disp_core.specs.Courses.{fixed_by}
use Rattle.view_core.specs.Walks.{state_of}
use Rattle.view_core.proofs.Runs.{disposes_meet, disposes_more, run_nothing, run_one}
use Rattle.view_core.proofs.walk.dispose_all.Goals as goal

pub loop-i-init : goal.loop-i-init
loop-i-init c = λ answers. run_nothing (fixed_by c.args.given.now) (state_of c.args.under.now answers)

pub returns-in-Some : goal.returns-in-Some
unfolding act
returns-in-Some c =
    let fixed : Fixed = fixed_by c.args.given.now in
    let d = c.index-dds-i.result in (
      refl,
      refl,
      λ answers. (
        c.loop-i.i,
        refl,
        record {
          plan = d;
          meets = disposes_meet fixed c.args.n c.loop-i.i c.args.dds.now d (state_of c.args.under.now answers) (state_of c.loop-i.under answers) []
              c.loop-i-test.true c.index-dds-i.is c.in-Some.fault (c.loop-i.invariant answers) (((c.in_ok-meets.ensures d.kind (sym c.disp_text-text.ensures)).ok answers).its_fault ∙ c.in-Some.is);
        },
      ),
    )

pub loop-i-preserved : goal.loop-i-preserved
unfolding act
loop-i-preserved c =
    let fixed : Fixed = fixed_by c.args.given.now in
    let d = c.index-dds-i.result in
    λ answers. disposes_more fixed c.args.n c.loop-i.i c.args.dds.now d (state_of c.args.under.now answers) (state_of c.loop-i.under answers) []
    c.loop-i-test.true c.index-dds-i.is (state_of (record { store = c.dispose.new.store; course = c.dispose.new.course }) answers) [] (c.loop-i.invariant answers)
    (let did = (c.in_ok-meets.ensures d.kind (sym c.disp_text-text.ensures)).ok answers in
    run_one fixed (Dispose c.args.n (c.loop-i.i + 1) d) (state_of c.loop-i.under answers) (state_of (record { store = c.dispose.new.store; course = c.dispose.new.course }) answers) []
    did.its_state (did.its_fault ∙ c.in_default.is) did.its_made)
