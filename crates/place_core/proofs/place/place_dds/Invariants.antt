use Rattle.std.proofs.Common.{◌≡◌, ◌+◌, drop}
use Rattle.place_core.specs.Placings.{IsClearFrom, placed_dds, placing}
use Rattle.place_core.specs.Volumes.{all_back}
use Rattle.place_core.proofs.place.place_dds.Given as goal

abbrev pub invariant-loop-i : goal.invariant-loop-i
invariant-loop-i l = record {
  run : placed_dds l.all l.units l.job l.step (l.i + 1) (drop l.i l.dds) (placing l.volumes l.places)
      ≡ placed_dds l.all l.units l.job l.step 1 l.dds (placing l.fn.volumes l.fn.places);
  clear : IsClearFrom l.volumes l.job l.step (l.i + 1);
  back : all_back l.job l.places l.volumes ≡ all_back l.job l.fn.places l.fn.volumes;
}
