use Rattle.std.proofs.Common.{subst, sym}
use Rattle.sched_core.specs.Starting.{IsForMachine}
use Rattle.worked_rows.proofs.sessions.driven.drive_on.Goals as goal

pub open_queue-requires-clause-layout : goal.open_queue-requires-clause-layout
open_queue-requires-clause-layout c = subst IsForMachine (sym c.requires.layout) c.queue_layout_is_for_machine.ensures
