use Rattle.std.proofs.Common.{refl}
use Rattle.std.specs.Fmt.{digits}
use Rattle.text_rows.proofs.lines.writes_takes.Goals as goal

pub returns : goal.returns
unfolding digits
returns c = record {
  made = refl;
  found = refl;
  received = refl;
  output = refl;
  dummy = refl;
  cards = refl;
}
