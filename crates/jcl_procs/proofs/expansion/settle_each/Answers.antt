use Rattle.std.proofs.Common.{◌≡◌, length, ap, ◌∙◌, arith}
use Rattle.jcl_procs.proofs.Settled.{all_settled, settled, settled_more}
use Rattle.jcl_procs.proofs.expansion.settle_each.Goals as goal

pub loop-dd-preserved : goal.loop-dd-preserved
loop-dd-preserved c =
    settled_more c.args.dds.now c.loop-dd.dds c.loop-dd.dd-index c.dd-item.result c.settle_dd.new.dd c.loop-dd-test.true
    c.loop-dd.invariant c.settle_dd.ensures

pub returns : goal.returns
returns c =
    let all : c.loop-dd.dd-index ≡ length c.args.dds.now = omega arith in
    c.loop-dd.invariant ∙ ap (λ n. settled n c.args.dds.now) all ∙ all_settled c.args.dds.now
