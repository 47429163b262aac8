use Rattle.std.proofs.Common.{refl}
use Rattle.std.specs.Fmt.{digits}
use Rattle.text_rows.proofs.lines.writes_requests.Goals as goal

pub returns : goal.returns
unfolding digits
returns c = record {
  get = refl;
  got = refl;
  got_blanks = refl;
  got_nothing = refl;
  got_all = refl;
  put = refl;
  put_with_space = refl;
  put_done = refl;
}
