use Rattle.std.proofs.Common.{take}
use Rattle.session_core.specs.Sessions.{events_of}
use Rattle.play_core.specs.Giving.{Leads}
use Rattle.play_core.specs.Searching.{AreEvents}
use Rattle.play_core.proofs.replaying.replay.Given as goal

abbrev pub invariant-loop-statement : goal.invariant-loop-statement
invariant-loop-statement l = record {
  leads : Leads l.fn.system (events_of (take l.statement-index l.statements)) l.system;
  all : AreEvents (take l.statement-index l.statements);
}
