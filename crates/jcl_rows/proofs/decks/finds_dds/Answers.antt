use Rattle.std.proofs.Common.{refl}
use Rattle.jcl_rows.proofs.decks.finds_dds.Goals as goal

pub returns : goal.returns
returns c = record {
  of_an_earlier_step = refl;
  of_the_same_step = refl;
  later_in_the_step = refl;
  of_a_later_step = refl;
  none_in_the_step = refl;
  none_of_a_step = refl;
}
