use Rattle.std.proofs.Common.{refl}
use Rattle.std.specs.Fmt.{digits}
use Rattle.world_rows.proofs.rules.numbers_are_resolved_once.Goals as goal

pub returns : goal.returns
unfolding digits
returns c = record { at_first = refl; later = refl }
