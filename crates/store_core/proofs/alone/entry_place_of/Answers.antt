use Rattle.std.proofs.Common.{◌≡◌, IfSome, IfNone, None, sym, subst}
use Rattle.jcl_meaning.specs.Stores.{entry_in}
use Rattle.store_core.specs.Places.{IsFirstOf}
use Rattle.store_core.proofs.Placed.{entry_missing, entry_there}
use Rattle.store_core.proofs.alone.entry_place_of.Goals as goal

pub returns-clause-there : goal.returns-clause-there
returns-clause-there c =
    subst (λ o. IfSome o (IsFirstOf c.args.entries.now c.args.name.now)) (sym c.entry_position_of.ensures) (entry_there c.args.name.now c.args.entries.now)

pub returns-clause-missing : goal.returns-clause-missing
returns-clause-missing c =
    subst (λ o. IfNone o (entry_in c.args.entries.now c.args.name.now ≡ None)) (sym c.entry_position_of.ensures) (entry_missing c.args.name.now c.args.entries.now)
