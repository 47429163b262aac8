use Rattle.std.proofs.Common.{IfSome, IfNone, sym, subst}
use Rattle.place_core.specs.Volumes.{IsMissing, StandsAt}
use Rattle.place_core.proofs.Seats.{missing, there}
use Rattle.place_core.proofs.aside.place_of.Goals as goal

pub returns-clause-there : goal.returns-clause-there
returns-clause-there c =
    subst (λ o. IfSome o (StandsAt c.args.volumes.now c.args.serial)) (sym c.position_of.ensures) (there c.args.serial c.args.volumes.now)

pub returns-clause-missing : goal.returns-clause-missing
returns-clause-missing c =
    subst (λ o. IfNone o (IsMissing c.args.volumes.now c.args.serial)) (sym c.position_of.ensures) (missing c.args.serial c.args.volumes.now)
