use Rattle.std.proofs.Common.{◌<◌, refl, sym, subst}
use Rattle.std.specs.FinMap.{get, len}
use Rattle.mount_core.specs.Mounts.{MountedState}
use Rattle.mount_core.proofs.GivingBack.{GivesBack, fewer_lists, one_back}
use Rattle.mount_core.proofs.mounted.Mounted.give_back_all.Goals as goal

pub loop-place-smaller : goal.loop-place-smaller
loop-place-smaller c =
    let m = c.loop-place.self in
    let place = c.in-Some.place in
    subst (λ (x : MountedState). len x.kept < len m.kept) (sym c.give_back.ensures) (fewer_lists m place (get m.kept place) refl c.in-Some.ensures.some.1)

pub loop-place-preserved : goal.loop-place-preserved
loop-place-preserved c =
    let m = c.loop-place.self in
    let place = c.in-Some.place in
    subst (GivesBack c.args.job c.args.self.now) (sym c.give_back.ensures)
    (one_back c.args.job c.args.self.now m place (get m.kept place) refl c.in-Some.ensures.some.0 c.kept_is_aside.ensures c.loop-place.invariant)
