use Rattle.std.proofs.Common.{◌≡◌, length, ap, ◌∙◌, arith}
use Rattle.jcl_procs.specs.Overrides.{with_this}
use Rattle.jcl_procs.proofs.Conditioned.{all_changed, changed, put_more}
use Rattle.jcl_procs.proofs.conditions.put_condition.Goals as goal

pub loop-step-preserved : goal.loop-step-preserved
loop-step-preserved c =
    put_more c.args.condition.now c.copied-step.result c.args.steps.now c.loop-step.steps c.loop-step.step-index c.step-item.result
    c.loop-step-test.true c.loop-step.invariant c.copied-step.ensures

pub returns : goal.returns
returns c =
    let all : c.loop-step.step-index ≡ length c.args.steps.now = omega arith in
    c.loop-step.invariant ∙ ap (λ n. changed (with_this c.args.condition.now) n c.args.steps.now) all
    ∙ all_changed (with_this c.args.condition.now) c.args.steps.now
