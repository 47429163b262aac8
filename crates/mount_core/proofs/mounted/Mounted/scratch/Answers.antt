use Rattle.mount_core.specs.Kept.{kept_of}
use Rattle.mount_core.proofs.Making.{scratched_kept}
use Rattle.mount_core.proofs.mounted.Mounted.scratch.Goals as goal

pub invariant_of-self : goal.invariant_of-self
invariant_of-self c =
    scratched_kept c.scratch.result c.self.inside.volume c.scratch.new.self c.args.key.now (kept_of c.self.inside.kept.entries) c.scratch.ensures.ok c.scratch.ensures.err
    c.volumes_are_sound.ensures c.self.invariant
