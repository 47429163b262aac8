use Rattle.std.proofs.Common.{refl}
use Rattle.jcl_dds.proofs.examples.merges.Goals as goal

pub returns : goal.returns
returns c = record {
  nothing = refl;
  replaced = refl;
  others_stay = refl;
  form_stays = refl;
  nullified = refl;
  name_removes_dummy = refl;
  name_removes_class = refl;
  null_file = refl;
  nullified_name_removes_nothing = refl;
  class_replaces_all = refl;
  word_replaces_all = refl;
  later_dd_replaces_all = refl;
  status_of_a_class = refl;
  unit_of_a_later_dd = refl;
  name_of_a_later_dd = refl;
}
