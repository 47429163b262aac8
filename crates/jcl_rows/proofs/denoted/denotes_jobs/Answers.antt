use Rattle.std.proofs.Common.{refl}
use Rattle.std.specs.Fmt.{digits}
use Rattle.jcl_symbols.specs.Substitutions.{substituted_from}
use Rattle.jcl_rows.proofs.denoted.denotes_jobs.Goals as goal

pub returns : goal.returns
unfolding digits substituted_from
returns c = record {
  one_step = refl;
  call = refl;
  call_with_its_own_program = refl;
  call_of_two_steps = refl;
  condition_of_a_step = refl;
  in_the_stream = refl;
  later_dd_and_units = refl;
  names_of_dds = refl;
}
