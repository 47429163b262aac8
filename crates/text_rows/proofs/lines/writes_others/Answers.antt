use Rattle.std.proofs.Common.{refl}
use Rattle.std.specs.Fmt.{digits}
use Rattle.text_rows.proofs.lines.writes_others.Goals as goal

pub returns : goal.returns
unfolding digits
returns c = record {
  job_1 = refl;
  job_9999 = refl;
  job_10000 = refl;
  path = refl;
  path_to_its_fault = refl;
  cancel = refl;
  cancel_of_the_last = refl;
  free_tracks = refl;
  queue = refl;
  first_day = refl;
  last_day = refl;
}
