use Rattle.std.proofs.Common.{Result, Ok, ap, sym, ◌∙◌}
use Rattle.jcl_plan.specs.declared.fault.Cause.{Cause}
use Rattle.jcl_plan.specs.declared.plan.DdKind.{DdKind}
use Rattle.jcl_plan.specs.declared.plan.DdKind.TheVariants as kind
use Rattle.jcl_plan.specs.declared.plan.DdPlan.{DdPlan}
use Rattle.jcl_plan.specs.declared.plan.SetPlan.{SetPlan}
use Rattle.jcl_procs.specs.Expansions.{and_then}
use Rattle.jcl_refs.specs.Kinds.{kind_by, plan_with, spot_of}
use Rattle.jcl_refs.specs.Plans.{own_kind}
use Rattle.jcl_refs.proofs.PlannedDds.{answered}
use Rattle.jcl_refs.proofs.kinds.plan_of.Goals as goal

pub returns-in-Some : goal.returns-in-Some
returns-in-Some c =
    let dd = c.args.dd.now in
    let planned : Result DdKind Cause → Result DdPlan Cause = λ r. and_then r (λ kind. Ok (plan_with dd kind)) in
    ap planned (answered (spot_of c.args.spot.now) dd c.naming-named.ensures c.key_of-key.ensures (sym c.in-Some.is ∙ c.dd_fault.ensures))

pub returns-in-Some-key : goal.returns-in-Some-key
returns-in-Some-key c =
    let at = spot_of c.args.spot.now in
    let dd = c.args.dd.now in
    let planned : DdKind → Result DdPlan Cause = λ kind. Ok (plan_with dd kind) in
    ap (λ r. and_then r planned) (answered at dd c.naming-named.ensures c.key_of-key.ensures (sym c.in_default.is ∙ c.dd_fault.ensures))
    ∙ ap (λ key. planned (kind_by at dd (own_kind dd) key)) c.in-Some-key.is
    ∙ ap (λ (set : SetPlan). planned (kind.Set set)) (sym c.set_with.ensures)

pub returns-in_ok-setless-in-None : goal.returns-in_ok-setless-in-None
returns-in_ok-setless-in-None c =
    let at = spot_of c.args.spot.now in
    let dd = c.args.dd.now in
    let planned : DdKind → Result DdPlan Cause = λ kind. Ok (plan_with dd kind) in
    ap (λ r. and_then r planned) (answered at dd c.naming-named.ensures c.key_of-key.ensures (sym c.in_default.is ∙ c.dd_fault.ensures))
    ∙ ap (λ key. planned (kind_by at dd (own_kind dd) key)) c.in-None.is
    ∙ ap planned (sym c.in_ok-setless-in-None.ensures)
