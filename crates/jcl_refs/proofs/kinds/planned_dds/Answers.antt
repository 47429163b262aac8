use Rattle.std.proofs.Common.{[], map, ap, sym, refl, ◌∙◌}
use Rattle.std.proofs.lemmas.List.{drop_all}
use Rattle.std.proofs.lemmas.Result.{err_from_is_err_and}
use Rattle.jcl_refs.specs.Kinds.{plans_from}
use Rattle.jcl_refs.specs.Plans.{kinds_in}
use Rattle.jcl_refs.proofs.PlannedDds.{planned_all, refused_at}
use Rattle.jcl_refs.proofs.kinds.planned_dds.Goals as goal

pub returns-in_err-plan : goal.returns-in_err-plan
returns-in_err-plan c =
    refused_at c.args.steps.now c.args.call c.args.k (map kinds_in c.args.done.now) c.loop-dd.planned c.as_slice.result.now c.len.result c.args.dds.now
    c.loop-dd.dd-index c.dd-item.result c.as_slice.ensures c.len.ensures c.dd-item.is c.loop-dd-test.true c.loop-dd.invariant.left
    c.plan_of.ensures c.in_err-plan.was (err_from_is_err_and c.from_residual-in_err-plan.result c.from_residual-in_err-plan.ensures.1)

pub returns : goal.returns
returns c =
    let before = map kinds_in c.args.done.now in
    let dds = c.args.dds.now in
    sym (planned_all c.args.steps.now c.args.call c.args.k before dds [] dds (λ kinds. refl))
    ∙ sym c.loop-dd.invariant.left
    ∙ ap (plans_from c.args.steps.now c.args.call c.args.k before c.loop-dd.planned) (drop_all c.loop-dd.dd-index dds c.loop-dd-test.false)
