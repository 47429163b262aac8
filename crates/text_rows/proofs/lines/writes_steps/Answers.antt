use Rattle.std.proofs.Common.{refl}
use Rattle.std.specs.Fmt.{digits}
use Rattle.text_rows.proofs.lines.writes_steps.Goals as goal

pub returns : goal.returns
unfolding digits
returns c = record {
  named = refl;
  of_a_procedure = refl;
  of_an_unnamed_call = refl;
  unnamed = refl;
}
