use Rattle.std.proofs.Common.{refl}
use Rattle.jcl_symbols.specs.Substitutions.{substituted_from}
use Rattle.jcl_rows.proofs.procedures.overrides_conditions.Goals as goal

pub returns : goal.returns
unfolding substituted_from
returns c = record {
  nothing = refl;
  all_steps = refl;
  one_step = refl;
  one_step_and_all = refl;
  no_such_step = refl;
}
