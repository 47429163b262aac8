use Rattle.std.proofs.Common.{refl}
use Rattle.jcl_rows.proofs.conditions.refuses_conditions.Goals as goal

pub returns : goal.returns
returns c = record {
  no_comma_between = refl;
  test_and_code = refl;
  even_twice = refl;
}
