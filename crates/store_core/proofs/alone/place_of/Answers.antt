use Rattle.std.proofs.Common.{◌≡◌, IfSome, IfNone, None, sym, subst}
use Rattle.jcl_meaning.specs.Stores.{set_in}
use Rattle.store_core.specs.Places.{IsFirstAt}
use Rattle.store_core.proofs.Placed.{missing, there}
use Rattle.store_core.proofs.alone.place_of.Goals as goal

pub returns-clause-there : goal.returns-clause-there
returns-clause-there c =
    subst (λ o. IfSome o (IsFirstAt c.args.sets.now c.args.key.now c.args.serial)) (sym c.position_of.ensures) (there c.args.key.now c.args.serial c.args.sets.now)

pub returns-clause-missing : goal.returns-clause-missing
returns-clause-missing c =
    subst (λ o. IfNone o (set_in c.args.sets.now c.args.key.now c.args.serial ≡ None)) (sym c.position_of.ensures) (missing c.args.key.now c.args.serial c.args.sets.now)
