use Rattle.std.proofs.Common.{◌≡◌, take}
use Rattle.std.specs.List.{All}
use Rattle.place_core.proofs.Choosing.{LacksRoom}
use Rattle.place_core.proofs.aside.aside_on_each.Given as goal

abbrev pub invariant-loop-serial : goal.invariant-loop-serial
invariant-loop-serial l = record {
  same : l.volumes ≡ l.fn.volumes;
  lack : All (LacksRoom l.fn.volumes l.tracks) (take l.serial-index l.among);
}
