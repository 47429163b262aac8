use Rattle.std.proofs.Common.{refl}
use Rattle.view_rows.proofs.fates.tells_the_first.Goals as goal

pub returns : goal.returns
returns c = record {
  fault = refl;
  met_before_an_abend = refl;
  met = refl;
  nothing_before = refl;
}
