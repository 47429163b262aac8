use Rattle.std.proofs.Common.{refl}
use Rattle.std.specs.Fmt.{digits}
use Rattle.text_rows.proofs.lines.writes_faults.Goals as goal

pub returns : goal.returns
unfolding digits
returns c = record {
  f1 = refl;
  f2 = refl;
  f3 = refl;
  f4 = refl;
  f5 = refl;
  f6 = refl;
  f7 = refl;
  f8 = refl;
  f9 = refl;
  f10 = refl;
}
