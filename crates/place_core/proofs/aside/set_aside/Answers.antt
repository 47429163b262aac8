use Rattle.std.proofs.Common.{◌≡◌, List, OnOk, subst, sym}
use Rattle.mount_core.specs.Mounts.{MountedState}
use Rattle.place_core.specs.Volumes.{changed_on}
use Rattle.place_core.proofs.KeptAside.{aside_keeps}
use Rattle.place_core.proofs.aside.set_aside.Goals as goal

pub returns-clause-ok : goal.returns-clause-ok
returns-clause-ok c =
    subst (λ (v : List MountedState). OnOk c.keep_at.result (c.keep_at.new.volumes ≡ v))
    (λ i. changed_on (λ m. sym (aside_keeps c.args.at c.args.tracks m c.requires.some) i) c.args.serial c.args.volumes.now) c.keep_at.ensures.ok
