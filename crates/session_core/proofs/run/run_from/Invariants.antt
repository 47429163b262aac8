use Rattle.std.proofs.Common.{◌≡◌, ℕ, ◌+◌, List, [], ◌++◌, false, take, drop}
use Rattle.std.specs.Io.KnownBytes.{Appends}
use Rattle.session_input.specs.declared.event.Event.{Event}
use Rattle.session_core.specs.Running.{AreApplied, options_in}
use Rattle.session_core.proofs.Progress.{Progress}
use Rattle.session_core.proofs.run.run_from.Given as goal

-- so much of the listing is written out, and no call of the sink has failed
abbrev pub invariant-loop-statement : goal.invariant-loop-statement
invariant-loop-statement g l = record {
  so_far : let at = l.from + l.statement-index in
      (out : List ℕ) × Appends (g.W.Write.contents l.fn.sink.writer.now) (g.W.Write.contents l.sink.writer.now) out
      × Progress (options_in l.fn.system.config) l.statements (take at l.statements) (drop at l.statements) l.late l.system out l.listing.marks.items
      l.listing.text.kept
      × ((events : List Event) × AreApplied l.fn.system events l.system [] (out ++ l.listing.text.kept));
  unfailed : l.sink.failed ≡ false;
  same : l.sink.writer.ghost_name ≡ l.fn.sink.writer.ghost_name;
}
