use Rattle.std.proofs.Common.{refl}
use Rattle.std.specs.Fmt.{digits}
use Rattle.text_rows.proofs.lines.writes_readings.Goals as goal

pub returns : goal.returns
unfolding digits
returns c = record {
  job = refl;
  job_of_eight = refl;
  rejected = refl;
  selected = refl;
  broken = refl;
  names = refl;
  waits_for_names = refl;
  waits_for_space = refl;
  end = refl;
}
