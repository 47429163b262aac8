use Rattle.std.proofs.Common.{◌≡◌, ◌+◌, drop}
use Rattle.place_core.specs.Placings.{IsClearFrom, placed_steps, placing}
use Rattle.place_core.specs.Volumes.{all_back}
use Rattle.place_core.proofs.place.place_steps.Given as goal

abbrev pub invariant-loop-i : goal.invariant-loop-i
invariant-loop-i l = record {
  run : placed_steps l.all l.units l.job (l.i + 1) (drop l.i l.steps) (placing l.volumes l.places)
      ≡ placed_steps l.all l.units l.job 1 l.steps (placing l.fn.volumes l.fn.places);
  clear : IsClearFrom l.volumes l.job (l.i + 1) 1;
  back : all_back l.job l.places l.volumes ≡ all_back l.job l.fn.places l.fn.volumes;
}
