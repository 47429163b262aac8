use Rattle.std.proofs.Common.{refl}
use Rattle.std.specs.FinMap.{get}
use Rattle.shared_core.proofs.Making.{made_by}
use Rattle.shared_core.proofs.OnVolumes.{made_take}
use Rattle.shared_core.proofs.volumes.make_on.Goals as goal

pub returns-in-Ok-clause-ok : goal.returns-in-Ok-clause-ok
returns-in-Ok-clause-ok c =
    made_by c.args.mounted.now c.make.new.self c.args.place.now c.args.key.now c.args.tracks c.args.expires
    (get c.args.mounted.now.kept c.args.place.now) refl c.in-Ok.ensures.made c.in-Ok.ensures.granted

pub returns-in-Ok-clause-extents : goal.returns-in-Ok-clause-extents
returns-in-Ok-clause-extents c =
    made_take c.args.mounted.now c.make.new.self c.args.place.now c.args.key.now c.args.tracks c.args.expires
    (get c.args.mounted.now.kept c.args.place.now) refl c.requires c.kept_is_aside.ensures c.in-Ok.ensures.made
