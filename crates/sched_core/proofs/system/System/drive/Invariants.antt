use Rattle.std.proofs.Common.{◌≡◌}
use Rattle.sched_core.proofs.Driving.{DrivenTo}
use Rattle.sched_core.proofs.system.System.drive.Given as goal

abbrev pub invariant-loop-event : goal.invariant-loop-event
invariant-loop-event g l = (l.done ≡ l.event-index) × DrivenTo l.initial.self l.events l.entries.items l.done l.self
