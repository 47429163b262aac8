use Rattle.event_laws.proofs.Events.{decided}
use Rattle.event_laws.proofs.events_are_decided.Goals as goal

pub returns : goal.returns
returns c = decided c.turns_are_decided.ensures c.reads_are_decided.ensures
