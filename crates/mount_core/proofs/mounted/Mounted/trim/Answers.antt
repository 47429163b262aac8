use Rattle.mount_core.specs.Kept.{kept_of}
use Rattle.mount_core.proofs.Making.{trimmed_kept}
use Rattle.mount_core.proofs.mounted.Mounted.trim.Goals as goal

pub invariant_of-self : goal.invariant_of-self
invariant_of-self c =
    trimmed_kept c.trim.result c.self.inside.volume c.trim.new.self c.args.key.now (kept_of c.self.inside.kept.entries) c.args.tracks c.trim.ensures.ok c.trim.ensures.err
    c.volumes_are_sound.ensures c.self.invariant
