use Rattle.std.proofs.Common.{refl}
use Rattle.jcl_rows.proofs.cards.reads_dds.Goals as goal

pub returns : goal.returns
returns c = record {
  set = refl;
  set_has_no_data = refl;
  nothing_is_nullified_by_itself = refl;
  cards_are_data = refl;
}
