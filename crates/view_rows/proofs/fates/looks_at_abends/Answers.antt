use Rattle.std.proofs.Common.{refl}
use Rattle.view_rows.proofs.fates.looks_at_abends.Goals as goal

pub returns : goal.returns
returns c = record {
  unsaid_behind_an_abend = refl;
  unsaid_behind_a_code = refl;
  even_behind_an_abend = refl;
  even_behind_a_code = refl;
  only_behind_an_abend = refl;
  only_behind_a_code = refl;
  even_and_no_test_met = refl;
  even_and_a_test_met = refl;
}
