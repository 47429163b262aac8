use Rattle.std.proofs.Common.{refl}
use Rattle.std.specs.Fmt.{digits}
use Rattle.text_rows.proofs.lines.writes_dispositions.Goals as goal

pub returns : goal.returns
unfolding digits
returns c = record {
  kept = refl;
  deleted = refl;
  passed = refl;
  cataloged = refl;
  uncataloged = refl;
  unexpired = refl;
  other_entry = refl;
  no_entry = refl;
  gone = refl;
  spooled_none = refl;
  spooled = refl;
  nothing = refl;
  left = refl;
  left_unnamed = refl;
  back_deleted = refl;
  back_kept = refl;
}
