use Rattle.std.proofs.Common.{◌≡◌, length, ap, ◌∙◌, arith}
use Rattle.jcl_procs.proofs.Conditioned.{all_changed, changed}
use Rattle.jcl_refs.proofs.Left.{change_more}
use Rattle.jcl_refs.specs.Plans.{with_dds_left}
use Rattle.jcl_refs.proofs.plan.leave_each.Goals as goal

pub loop-step-preserved : goal.loop-step-preserved
loop-step-preserved c =
    change_more with_dds_left c.args.steps.now c.loop-step.steps c.loop-step.step-index c.step-item.result c.leave_dds.new.step c.loop-step-test.true
    c.loop-step.invariant (c.in_ok-leave_dds.ensures)

pub returns : goal.returns
returns c =
    let all : c.loop-step.step-index ≡ length c.args.steps.now = omega arith in
    c.loop-step.invariant ∙ ap (λ n. changed with_dds_left n c.args.steps.now) all ∙ all_changed with_dds_left c.args.steps.now
