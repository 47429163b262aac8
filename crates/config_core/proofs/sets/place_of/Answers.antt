use Rattle.std.proofs.Common.{◌≡◌, IfSome, IfNone, None, sym, subst}
use Rattle.shared_core.specs.Shown.{mounted_in}
use Rattle.config_core.specs.Sets.{IsPlaceOf}
use Rattle.config_core.proofs.Places.{missing, there}
use Rattle.config_core.proofs.sets.place_of.Goals as goal

pub returns-clause-there : goal.returns-clause-there
returns-clause-there c =
    subst (λ o. IfSome o (IsPlaceOf c.args.volumes.now c.args.serial)) (sym c.position_of.ensures) (there c.args.serial c.args.volumes.now)

pub returns-clause-missing : goal.returns-clause-missing
returns-clause-missing c =
    subst (λ o. IfNone o (mounted_in c.args.volumes.now c.args.serial ≡ None)) (sym c.position_of.ensures) (missing c.args.serial c.args.volumes.now)
