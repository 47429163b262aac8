use Rattle.std.proofs.Common.{refl}
use Rattle.part_copy.proofs.sets.key_behind_names.Goals as goal

pub of-requires : goal.of-requires
of-requires c = (c.faults_are_exact.ensures.ds_name 44 _).0 refl
