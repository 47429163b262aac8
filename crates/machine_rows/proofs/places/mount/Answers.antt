use Rattle.std.proofs.Common.{◌≡◌, sym, ap, subst}
use Rattle.std.specs.FinMap.{empty}
use Rattle.std.specs.List.{All}
use Rattle.std.proofs.lemmas.List.Elements.{All-push}
use Rattle.mount_core.specs.Mounts.{MountedState}
use Rattle.machine_rows.proofs.places.mount.Goals as goal

abbrev IsNew : MountedState → Type 0
IsNew m = m.kept ≡ empty

pub returns : goal.returns
returns c =
    subst (All IsNew) (sym c.in_ok-push.ensures.ok)
    (All-push IsNew c.args.volumes.now c.in_ok-mounted.mounted c.requires.before (ap (λ (m : MountedState). m.kept) c.in_ok-mounted.ensures))
