use Rattle.std.proofs.Common.{refl}
use Rattle.text_rows.proofs.operands.drops_apostrophes.Goals as goal

pub returns : goal.returns
returns c = record {
  doubled = refl;
  closed_before = refl;
  none = refl;
}
