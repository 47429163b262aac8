use Rattle.std.proofs.Common.{◌+◌, None, Some}
use Rattle.disp_core.specs.Courses.{fixed_by}
use Rattle.jcl_meaning.specs.States.{Fixed}
use Rattle.view_core.specs.declared.scene.Scene.{Scene}
use Rattle.view_core.specs.Legs.{EndsJob}
use Rattle.view_core.specs.Domains.{shown_before}
use Rattle.view_core.specs.Shows.{shows}
use Rattle.view_core.proofs.Leaving.{crossed_at_end, ended_as}
use Rattle.view_core.proofs.domain.PlainDomain.cross_end.Goals as goal

pub returns-in-Some : goal.returns-in-Some
returns-in-Some c =
    let domain = c.args.self.now in
    let fixed : Fixed = fixed_by domain.given in
    let v = c.args.view.now in
    crossed_at_end (shown_before domain (c.args.part + 1)) domain.plan.now fixed c.args.part c.requires (shows v) (Some c.in-Some.stop)
    (ended_as fixed domain.plan.now c.deref.result.now v.scene.value v.abended c.in_ok-stop.field-0 (Some c.in-Some.stop) c.deref.ensures c.in-Some.is
    c.in_ok-stop.ensures)

pub returns-in-None : goal.returns-in-None
returns-in-None c =
    let domain = c.args.self.now in
    let fixed : Fixed = fixed_by domain.given in
    let v = c.args.view.now in
    crossed_at_end (shown_before domain (c.args.part + 1)) domain.plan.now fixed c.args.part c.requires (shows v) None
    (ended_as fixed domain.plan.now c.deref.result.now v.scene.value v.abended c.in_ok-stop.field-0 None c.deref.ensures c.in-None.is c.in_ok-stop.ensures)
