use Rattle.std.proofs.Common.{refl}
use Rattle.jcl_rows.proofs.conditions.reads_conditions.Goals as goal

pub returns : goal.returns
returns c = record {
  of_a_step = refl;
  even_first = refl;
  all_operators = refl;
  even = refl;
  only_in_parentheses = refl;
}
