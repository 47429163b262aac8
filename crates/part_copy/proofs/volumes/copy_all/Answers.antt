use Rattle.std.proofs.Common.{◌&&◌, ℕ, List, refl, subst, sym}
use Rattle.std.specs.Str.{bytes_eq}
use Rattle.jcl_meaning.specs.Parts.{sees_key}
use Rattle.mount_core.specs.Mounts.{MountedState}
use Rattle.part_copy.specs.Copies.{AddsSets, Spot, bare_at, set_at}
use Rattle.part_copy.proofs.Adding.{next, nothing}
use Rattle.part_copy.proofs.Copied.{sets_behind}
use Rattle.part_copy.proofs.volumes.copy_all.Goals as goal

pub loop-mounted-init : goal.loop-mounted-init
loop-mounted-init c = nothing set_at (bare_at c.args.job c.args.volumes.now) c.args.sets.now (λ q. refl)

pub loop-mounted-preserved : goal.loop-mounted-preserved
loop-mounted-preserved c =
    next set_at (bare_at c.args.job c.args.volumes.now) sets_behind (λ (m : MountedState) (q : Spot). sees_key c.args.names.now q.0 && bytes_eq m.serial q.1)
    c.args.volumes.now c.loop-mounted.mounted-index c.mounted-item.result c.args.sets.now c.loop-mounted.sets c.copy_mounted.new.sets
    c.loop-mounted-test.true (sym c.mounted-item.is) c.loop-mounted.invariant
    (subst (λ (s : List ℕ). AddsSets (bare_at c.args.job c.args.volumes.now) (λ q. sees_key c.args.names.now q.0 && bytes_eq s q.1) c.loop-mounted.sets c.copy_mounted.new.sets)
    c.serial.ensures c.in_ok-copy_mounted.ensures)
