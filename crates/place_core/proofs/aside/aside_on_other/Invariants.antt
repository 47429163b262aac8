use Rattle.std.proofs.Common.{◌≡◌, take}
use Rattle.std.specs.List.{All}
use Rattle.place_core.specs.Vain.{AreVain}
use Rattle.place_core.proofs.Choosing.{LacksRoom}
use Rattle.place_core.proofs.aside.aside_on_other.Given as goal

abbrev pub invariant-loop-serial : goal.invariant-loop-serial
invariant-loop-serial l = record {
  same : l.volumes ≡ l.fn.volumes;
  lack : All (LacksRoom l.fn.volumes l.tracks) (take l.serial-index l.among);
  vain : AreVain l.fn.volumes l.tracks l.vain;
}
