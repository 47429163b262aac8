use Rattle.std.proofs.Common.{refl}
use Rattle.std.specs.Fmt.{digits}
use Rattle.text_rows.proofs.lines.writes_analyses.Goals as goal

pub returns : goal.returns
unfolding digits
returns c = record {
  assured = refl;
  risk_at_once = refl;
  risk_later = refl;
  too_many = refl;
  refused = refl;
  cancelled = refl;
}
