use Rattle.std.proofs.Common.{Result, ◌∙◌, ap, map, arith, subst}
use Rattle.jcl_plan.specs.declared.fault.Cause.{Cause}
use Rattle.jcl_plan.specs.declared.plan.JobPlan.{JobPlan}
use Rattle.value_core.specs.Reads.{Gives}
use Rattle.jcl_refs.specs.Planning.{has_many_dd_names}
use Rattle.jcl_refs.proofs.StepLists.{plan_is}
use Rattle.jcl_refs.proofs.plan.plan_of_steps.Goals as goal

pub returns : goal.returns
returns c =
    let F : Result JobPlan Cause → Type 0 = λ r. Gives c.plan_with.result r in
    subst F
    (plan_is c.args.units.now c.args.job c.args.steps c.as_slice-3.result.now c.as_slice-4.result.now
    (omega (arith, c.len.ensures, c.if-len-gt-MOST_STEPS.false))
    (c.as_slice-3.ensures ∙ c.in_ok-left.ensures) (c.as_slice-4.ensures.value ∙ c.in_ok-many.ensures ∙ ap (map has_many_dd_names) c.as_slice.ensures))
    c.plan_with.ensures
