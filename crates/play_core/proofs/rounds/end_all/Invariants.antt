use Rattle.std.proofs.Common.{◌≡◌, ◌<◌, true, false, length, take, All, Some}
use Rattle.prog_core.specs.Operations.{is_busy}
use Rattle.sched_core.specs.Systems.{world_of}
use Rattle.play_core.specs.Giving.{Adds}
use Rattle.play_core.proofs.rounds.end_all.Given as goal

abbrev pub invariant-loop-place : goal.invariant-loop-place
invariant-loop-place l = record {
  adds : Adds l.fn.system l.fn.added.given.items l.system l.added.given.items;
  config : l.system.config ≡ l.fn.system.config;
  count : l.count ≡ length l.fn.system.config.volumes;
  idle : l.quiet ≡ true → All (λ serial. is_busy (world_of l.system).shared.operations (Some serial) ≡ false) (take l.place l.system.config.volumes);
  same : l.quiet ≡ true → l.system ≡ l.fn.system;
  more : l.quiet ≡ false → length l.fn.added.given.items < length l.added.given.items;
}
