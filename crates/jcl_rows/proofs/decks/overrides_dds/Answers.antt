use Rattle.std.proofs.Common.{refl}
use Rattle.jcl_rows.proofs.decks.overrides_dds.Goals as goal

pub returns : goal.returns
returns c = record {
  two_qualified = refl;
  unqualified = refl;
  added = refl;
  concatenation = refl;
  out_of_order = refl;
  no_such_step = refl;
  status_of_a_class = refl;
}
