use Rattle.mount_core.specs.Kept.{kept_of}
use Rattle.mount_core.proofs.Making.{grown_kept}
use Rattle.mount_core.proofs.mounted.Mounted.grow.Goals as goal

pub invariant_of-self : goal.invariant_of-self
invariant_of-self c =
    grown_kept c.grow.result c.self.inside.volume c.grow.new.self c.args.key.now c.args.tracks (kept_of c.self.inside.kept.entries) c.grow.ensures.answer c.self.invariant
