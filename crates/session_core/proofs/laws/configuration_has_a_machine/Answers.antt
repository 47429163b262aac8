use Rattle.session_core.proofs.Started.{machine_begun}
use Rattle.session_core.proofs.laws.configuration_has_a_machine.Goals as goal

pub returns : goal.returns
returns c = machine_begun c.configuration_is_start.ensures c.queue_layout_is_for_machine.ensures
