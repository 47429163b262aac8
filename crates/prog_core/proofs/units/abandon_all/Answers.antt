use Rattle.std.proofs.Common.{◌≡◌, length, ap, ◌∙◌, arith}
use Rattle.prog_core.proofs.OperationLemmas.{all_without, put_without, without_first}
use Rattle.prog_core.proofs.units.abandon_all.Goals as goal

pub loop-operation-preserved : goal.loop-operation-preserved
loop-operation-preserved c =
    put_without c.args.job c.loop-operation.operation-index c.args.operations.now c.loop-operation.operations c.operation-item.result c.without_owner.result
    c.loop-operation-test.true c.loop-operation.invariant c.without_owner.ensures

pub returns : goal.returns
returns c =
    let all : c.loop-operation.operation-index ≡ length c.args.operations.now = omega arith in
    c.loop-operation.invariant ∙ ap (λ n. without_first c.args.job n c.args.operations.now) all ∙ all_without c.args.job c.args.operations.now
