use Rattle.std.proofs.Common.{◌≡◌, ◌<◌, true, false, length}
use Rattle.sched_core.specs.Systems.{world_of}
use Rattle.play_core.specs.Giving.{Adds, Stays}
use Rattle.play_core.proofs.rounds.turn_all.Given as goal

abbrev pub invariant-loop-place : goal.invariant-loop-place
invariant-loop-place l = record {
  adds : Adds l.fn.system l.fn.added.given.items l.system l.added.given.items;
  count : l.count ≡ length (world_of l.fn.system).initiators;
  still : l.still ≡ true → Stays l.fn.system 0 l.place l.system;
  more : l.still ≡ false → length l.fn.added.given.items < length l.added.given.items;
}
