use Rattle.std.proofs.Common.{refl}
use Rattle.jcl_symbols.specs.Substitutions.{substituted_from}
use Rattle.jcl_symbols.proofs.examples.substitutes.Goals as goal

pub returns : goal.returns
unfolding substituted_from
returns c = record {
  value = refl;
  of_the_call = refl;
  period_dropped = refl;
  second_period_stays = refl;
  nullified = refl;
  two_in_a_row = refl;
  in_apostrophes = refl;
  behind_apostrophes = refl;
  apostrophe_ends_it = refl;
  seven_characters = refl;
  doubled = refl;
  three = refl;
  of_no_name = refl;
  comma_of_a_value = refl;
  in_parentheses = refl;
  temporary = refl;
  period_of_a_temporary = refl;
  without_a_value = refl;
  no_name_of_a_dd = refl;
  positional = refl;
  none = refl;
  of_1024 = refl;
  of_1025 = refl;
  too_long_before = refl;
  too_long_behind = refl;
  value_told_first = refl;
}
