use Rattle.jcl_refs.proofs.Numbering.{no_place}
use Rattle.jcl_refs.proofs.units.UnitNames.add.Goals as goal

pub add-requires-clause-new : goal.add-requires-clause-new
add-requires-clause-new c =
    rw c.as_slice.ensures.value (no_place c.self.inside.places c.args.name (rw c.self.view_is c.requires.new))
