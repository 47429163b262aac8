use Rattle.std.proofs.Common.{subst, ◌∙◌}
use Rattle.std.specs.List.{All}
use Rattle.std.proofs.lemmas.List.{take_all}
use Rattle.std.proofs.lemmas.List.Elements.{All-more}
use Rattle.shared_core.specs.LaidOut.{IsLaidOut}
use Rattle.shared_core.proofs.sums.volumes_are_laid_out.Goals as goal

pub loop-mounted-preserved : goal.loop-mounted-preserved
loop-mounted-preserved c =
    All-more IsLaidOut c.args.volumes.now c.loop-mounted.mounted-index c.mounted-item.result c.loop-mounted-test.true c.loop-mounted.invariant
    (subst IsLaidOut c.mounted-item.is c.is_laid_out.ensures)

pub returns : goal.returns
returns c = subst (All IsLaidOut) (take_all c.loop-mounted.mounted-index c.args.volumes.now c.loop-mounted-test.false) c.loop-mounted.invariant
