use Rattle.std.proofs.Common.{◌≤◌, length}
use Rattle.play_core.specs.Giving.{Adds}
use Rattle.play_core.proofs.rounds.play_rounds.Given as goal

abbrev pub invariant-loop-round : goal.invariant-loop-round
invariant-loop-round l = record {
  adds : Adds l.fn.system l.fn.added.given.items l.system l.added.given.items;
  rounds : l.round ≤ length l.added.given.items;
}
