use Rattle.std.proofs.Common.{None, Some, refl, sym}
use Rattle.jcl_meaning.specs.States.{Fixed}
use Rattle.disp_core.specs.Courses.{fixed_by}
use Rattle.view_core.specs.declared.walk.Under.{Under}
use Rattle.view_core.proofs.Walking.{disposed_as}
use Rattle.view_core.proofs.walk.end_by.Goals as goal

pub returns-in-Some : goal.returns-in-Some
returns-in-Some c =
    let fixed : Fixed = fixed_by c.args.given.now in
    let shut : Under = record { store = c.args.under.store; course = c.finish.new.course } in (
      c.finish.new.course,
      c.in_ok-finish.ensures.ok,
      (
        c.dispose_all.new.under,
        disposed_as fixed c.args.n c.args.dds.now c.args.dds.now shut c.dispose_all.new.under c.in_ok-stop.field-0 (Some c.in-Some.stop) refl c.in-Some.is
            c.in_ok-stop.ensures,
      ),
    )

pub returns-in-None : goal.returns-in-None
returns-in-None c =
    let fixed : Fixed = fixed_by c.args.given.now in
    let shut : Under = record { store = c.args.under.store; course = c.finish.new.course } in (
      c.finish.new.course,
      c.in_ok-finish.ensures.ok,
      (
        c.dispose_all.new.under,
        (
          disposed_as fixed c.args.n c.args.dds.now c.args.dds.now shut c.dispose_all.new.under c.in_ok-stop.field-0 None refl c.in-None.is c.in_ok-stop.ensures,
          c.scene_of.ensures,
        ),
      ),
    )
