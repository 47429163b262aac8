use Rattle.std.proofs.Common.{refl}
use Rattle.std.specs.Fmt.{digits}
use Rattle.text_rows.proofs.lines.writes_for_writers.Goals as goal

pub returns : goal.returns
unfolding digits
returns c = record {
  line_of_a_job = refl;
  last_line = refl;
  record_of_output = refl;
  blank_record = refl;
}
