use Rattle.std.proofs.Common.{[], None, Some, List, ap}
use Rattle.std.specs.Prelude.{Result}
use Rattle.disp_core.specs.Courses.{fixed_by}
use Rattle.jcl_plan.specs.declared.outcome.Abend.TheVariants.{User}
use Rattle.jcl_plan.specs.declared.outcome.Outcome.TheVariants as outcome
use Rattle.jcl_plan.specs.declared.plan.StepPlan.{StepPlan}
use Rattle.jcl_meaning.specs.declared.state.Place.{Place}
use Rattle.jcl_meaning.specs.States.{Fixed}
use Rattle.view_domain.specs.declared.crossed.Stop.{Stop}
use Rattle.view_core.specs.declared.scene.Scene.{Scene}
use Rattle.view_core.specs.declared.walk.Under.{Under}
use Rattle.view_core.specs.Walks.{EndsFrom, TakesAll}
use Rattle.view_core.proofs.Walking.{ended_as, ends, makes, refused, taken_again, taken_as}
use Rattle.view_core.proofs.legs.legs_of.Goals as goal

pub returns-in-Some : goal.returns-in-Some
returns-in-Some c =
    let fixed : Fixed = fixed_by c.args.given.now in
    let step : StepPlan = c.args.step.now in
    let u : Under = c.in_ok-under.under in
    let v : Under = c.take_all.new.under in
    let made : List Place = c.take_all.new.made.items in
    record {
      own = u.course.own;
      begun = c.in_ok-under.ensures.1;
      stops = refused fixed c.args.n step c.args.scene.now u c.in_ok-under.ensures.0 c.in-Some.stop v made
          (taken_as fixed c.args.n c.as_slice-dds.result.now step.dds u v c.new-made.result.items [] made c.in_ok-stop.field-0 (Some c.in-Some.stop)
          c.as_slice-dds.ensures c.new-made.ensures.items c.in-Some.is c.in_ok-stop.ensures);
    }

pub returns : goal.returns
returns c =
    let fixed : Fixed = fixed_by c.args.given.now in
    let n = c.args.n in
    let step : StepPlan = c.args.step.now in
    let scene : Scene = c.args.scene.now in
    let dds = c.as_slice-dds.result.now in
    let u : Under = c.in_ok-under.under in
    let v : Under = c.take_all.new.under in
    let w : Under = c.in_ok-other.other in
    let made : List Place = c.take_all.new.made.items in
    let taken : TakesAll fixed n step.dds u [] None v made =
    taken_as fixed n dds step.dds u v c.new-made.result.items [] made c.in_ok-stop.field-0 None c.as_slice-dds.ensures c.new-made.ensures.items c.in_default.is
    c.in_ok-stop.ensures in
    let again : TakesAll fixed n step.dds u [] None w made = taken_again fixed n step.dds u v w made c.in_ok-other.ensures.0 c.in_ok-other.ensures.1 taken in
    let by_code : EndsFrom fixed n step.dds v (outcome.Code 0) c.in_ok-by_code.by_code =
    ended_as fixed n dds step.dds v (outcome.Code c.zero.result) (outcome.Code 0) c.in_ok-by_code.by_code c.as_slice-dds.ensures
    (ap outcome.Code c.zero.ensures) c.in_ok-by_code.ensures in
    let by_abend : EndsFrom fixed n step.dds w (outcome.Abend (User 0)) c.in_ok-by_abend.by_abend =
    ended_as fixed n dds step.dds w (outcome.Abend (User c.zero-2.result)) (outcome.Abend (User 0)) c.in_ok-by_abend.by_abend c.as_slice-dds.ensures
    (ap (λ k. outcome.Abend (User k)) c.zero-2.ensures) c.in_ok-by_abend.ensures in (
      record { own = u.course.own; begun = c.in_ok-under.ensures.1; makes = makes fixed n step scene u c.in_ok-under.ensures.0 v made taken },
      record {
        own = u.course.own;
        begun = c.in_ok-under.ensures.1;
        ends = ends fixed n step scene u c.in_ok-under.ensures.0 v made taken (outcome.Code 0) c.in_ok-by_code.by_code by_code;
      },
      record {
        own = u.course.own;
        begun = c.in_ok-under.ensures.1;
        ends = ends fixed n step scene u c.in_ok-under.ensures.0 w made again (outcome.Abend (User 0)) c.in_ok-by_abend.by_abend by_abend;
      },
    )
