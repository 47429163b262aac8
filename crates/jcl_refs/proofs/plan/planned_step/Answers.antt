use Rattle.std.proofs.Common.{◌≡◌, length, map, ap, ◌∙◌, arith}
use Rattle.jcl_refs.specs.Plans.{kinds_in}
use Rattle.jcl_refs.proofs.StepLists.{planned_length}
use Rattle.jcl_refs.proofs.plan.planned_step.Goals as goal

pub returns-clause-count : goal.returns-clause-count
returns-clause-count c =
    planned_length c.args.steps.now c.args.step.now.call c.args.k (map kinds_in c.args.done.now) c.as_slice.result.now c.in_ok-dds.dds c.in_ok-dds.ensures
    ∙ ap length c.as_slice.ensures

pub returns-clause-few : goal.returns-clause-few
returns-clause-few c =
    let count : length c.in_ok-dds.dds ≡ length c.args.step.now.dds =
    planned_length c.args.steps.now c.args.step.now.call c.args.k (map kinds_in c.args.done.now) c.as_slice.result.now c.in_ok-dds.dds c.in_ok-dds.ensures
    ∙ ap length c.as_slice.ensures in
    omega (arith, count, c.len.ensures, c.if-len-gt-MOST_DDS.false)
