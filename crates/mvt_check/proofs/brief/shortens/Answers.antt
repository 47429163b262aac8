use Rattle.std.proofs.Common.{refl}
use Rattle.std.specs.Fmt.{digits}
use Rattle.mvt_check.proofs.brief.shortens.Goals as goal

pub returns : goal.returns
unfolding digits
returns c = record {
  on_the_page = refl;
  marked = refl;
  unmarked = refl;
  second_marked = refl;
  marked_later = refl;
  marked_twice = refl;
  first_column = refl;
  within_the_margin = refl;
  other_characters = refl;
  last_line = refl;
  no_finding = refl;
  other_beginnings = refl;
  no_text = refl;
}
