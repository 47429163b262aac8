use Rattle.std.proofs.Common.{◌≡◌, replicate}
use Rattle.sched_core.specs.Systems.{IsSameFixed}
use Rattle.session_core.specs.Running.{AreApplied}
use Rattle.session_core.proofs.run.run_events.Given as goal

abbrev pub invariant-loop-done : goal.invariant-loop-done
invariant-loop-done l = record {
  applied : AreApplied l.fn.system (replicate l.done l.event) l.system l.fn.listing.text.kept l.listing.text.kept;
  fixed : IsSameFixed l.fn.system l.system;
  marks : l.listing.marks.items ≡ l.fn.listing.marks.items;
}
