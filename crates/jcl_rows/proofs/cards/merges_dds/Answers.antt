use Rattle.std.proofs.Common.{refl}
use Rattle.jcl_rows.proofs.cards.merges_dds.Goals as goal

pub returns : goal.returns
returns c = record {
  name_removes_class = refl;
  name_of_a_later_dd = refl;
}
