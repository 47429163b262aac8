use Rattle.std.proofs.Common.{refl}
use Rattle.value_core.proofs.examples.reads_others.Goals as goal

pub returns : goal.returns
returns c = record {
  all_words = refl;
  no_words = refl;
  status_alone = refl;
  passed_after_abend = refl;
  four_words = refl;
  unit_name = refl;
  affinity = refl;
  long_unit = refl;
  day = refl;
  slashed_day = refl;
  period = refl;
  long_period = refl;
  no_leap_day = refl;
  early_year = refl;
  no_digits = refl;
  no_day = refl;
  no_label = refl;
  two_labels = refl;
  one_label_twice = refl;
  hundred = refl;
  over = refl;
  doubled = refl;
}
