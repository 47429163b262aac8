use Rattle.std.proofs.Common.{ap, ◌∙◌}
use Rattle.operand_core.specs.Faults.{told}
use Rattle.operand_core.specs.Subparameters.{subparameters_of}
use Rattle.value_core.specs.Places.{times}
use Rattle.value_core.proofs.Counts.{counts_capped}
use Rattle.value_core.proofs.places.together_fault.Goals as goal

pub returns : goal.returns
returns c =
    let places = subparameters_of c.args.text.now in
    c.counts_fault.ensures
    ∙ ap told (counts_capped _ _ (times c.args.one.now places) (times c.args.other.now places) c.times.ensures c.times-2.ensures)
