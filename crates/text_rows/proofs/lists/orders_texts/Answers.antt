use Rattle.std.proofs.Common.{refl}
use Rattle.text_rows.proofs.lists.orders_texts.Goals as goal

pub returns : goal.returns
returns c = record {
  both_empty = refl;
  empty_before_a = refl;
  a_before_ab = refl;
  ab_before_b = refl;
  b_behind_ab = refl;
  the_same = refl;
  last_differs = refl;
  longer_behind = refl;
  nul_behind = refl;
}
