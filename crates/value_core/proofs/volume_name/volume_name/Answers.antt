use Rattle.std.proofs.Common.{codes}
use Rattle.operand_core.specs.Subparameters.{subparameters_of}
use Rattle.value_core.specs.Places.{together_faults}
use Rattle.value_core.specs.VolumeNames.{first_named}
use Rattle.value_core.proofs.Both.{with_fault_is}
use Rattle.value_core.proofs.volume_name.volume_name.Goals as goal

pub returns : goal.returns
returns c =
    let places = subparameters_of c.args.text.now in
    with_fault_is (first_named places) (together_faults (codes "SER") (codes "REF") places) c.named_in-volume.ensures c.together_fault-together.ensures c.with_together.ensures
