use Rattle.std.proofs.Common.{Err, Result, ◌∙◌, subst, sym}
use Rattle.jcl_plan.specs.declared.plan.JobPlan.{JobPlan}
use Rattle.value_core.specs.Reads.{Gives}
use Rattle.value_core.specs.declared.refusal.ReadError.{ReadError}
use Rattle.jcl_refs.specs.Plans.{plan_of}
use Rattle.jcl_refs.proofs.Counted.{plan_of_kept, plan_of_many}
use Rattle.jcl_refs.proofs.plan.plan_of.Goals as goal

pub returns-in-Steps : goal.returns-in-Steps
returns-in-Steps c steps kept =
    subst (Gives c.plan_of_steps.result) (plan_of_kept c.args.units.now c.args.job steps c.in-Steps.steps (sym c.in-Steps.is ∙ kept)) c.plan_of_steps.ensures

pub returns-in-TooMany : goal.returns-in-TooMany
returns-in-TooMany c steps kept =
    subst (λ (e : ReadError). Gives (let r : Result JobPlan ReadError = Err e in r) (plan_of c.args.units.now c.args.job steps)) (sym c.refusal.ensures)
    (plan_of_many c.args.units.now c.args.job steps (sym c.in-TooMany.is ∙ kept))
