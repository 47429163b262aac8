use Rattle.std.proofs.Common.{◌∙◌, ap, length, arith, subst}
use Rattle.std.specs.Option.{IfSome}
use Rattle.value_core.specs.Reads.{Gives}
use Rattle.jcl_refs.specs.Early.{IsEarly, settled_behind}
use Rattle.jcl_refs.proofs.Early.{all_settled, early_plan, settled_length, within_marks}
use Rattle.jcl_refs.proofs.StepLists.{plan_is}
use Rattle.jcl_refs.proofs.plan.refused_plan.Goals as goal

pub returns-in-Some : goal.returns-in-Some
returns-in-Some c =
    early_plan c.args.units.now c.args.job c.args.steps.now c.leave_first.new.steps c.args.many.now c.args.count c.in-Some.cause c.requires.few
    c.requires.many c.requires.first c.in_ok-leave_first.ensures
    (subst (λ found. IfSome found (IsEarly c.leave_first.new.steps c.args.many.now c.args.count)) c.in-Some.is c.in_ok-cause.ensures)

pub leave_others-requires : goal.leave_others-requires
leave_others-requires c =
    let within = within_marks c.args.steps.now c.args.many.now c.args.count c.requires.many c.requires.first in
    let size = ap length c.in_ok-leave_first.ensures ∙ settled_length c.args.steps.now c.args.count within in
    omega (arith, within, size)

pub returns : goal.returns
returns c =
    let steps = c.args.steps.now in
    let count = c.args.count in
    subst (Gives c.plan_with.result)
    (plan_is c.args.units.now c.args.job steps c.leave_others.new.steps c.args.many.now c.requires.few
    (c.in_ok-leave_others.ensures ∙ ap (settled_behind count) c.in_ok-leave_first.ensures
    ∙ all_settled steps count (within_marks steps c.args.many.now count c.requires.many c.requires.first))
    c.requires.many)
    c.plan_with.ensures
