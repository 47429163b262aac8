use Rattle.std.proofs.Common.{ap}
use Rattle.mount_core.specs.Kept.{kept_of}
use Rattle.mount_core.proofs.Keeping.{first_kept}
use Rattle.mount_core.proofs.mounted.Mounted.new.Goals as goal

pub invariant_of-result : goal.invariant_of-result
invariant_of-result c =
    first_kept c.args.tracks c.args.unusable.now c.in_ok-volume.volume.tracks (kept_of c.new-2.result.entries) (ap (λ v. v.tracks) c.in_ok-volume.ensures) (ap kept_of c.new-2.ensures.empty)
