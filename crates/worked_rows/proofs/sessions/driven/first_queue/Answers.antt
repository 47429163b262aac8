use Rattle.std.proofs.Common.{sym, subst}
use Rattle.sched_core.specs.Starting.{IsForMachine}
use Rattle.worked_rows.proofs.sessions.driven.first_queue.Goals as goal

pub returns-clause-layout : goal.returns-clause-layout
returns-clause-layout c = subst (λ q. IsForMachine q.layout) (sym c.in_ok-queue.ensures) c.queue_layout_is_for_machine.ensures
