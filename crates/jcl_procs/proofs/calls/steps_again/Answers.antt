use Rattle.std.proofs.Common.{Option, IfSome, subst, sym}
use Rattle.jcl_dds.specs.declared.dd.DdCard.{DdCard}
use Rattle.jcl_procs.specs.Remembering.{BringsDd}
use Rattle.jcl_procs.proofs.Remembering.{dd_of}
use Rattle.jcl_procs.proofs.calls.steps_again.Goals as goal

pub take_again-requires : goal.take_again-requires
take_again-requires c =
    let s = c.index-statements-at.result in
    subst (λ (dd : Option DdCard). IfSome dd (BringsDd s)) (sym c.dd_at.ensures)
    (dd_of c.args.dds.now c.args.statements.now c.loop-at.at s c.requires c.loop-at-test.true c.index-statements-at.is)
