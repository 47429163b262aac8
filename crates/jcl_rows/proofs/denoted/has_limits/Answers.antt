use Rattle.std.proofs.Common.{refl}
use Rattle.std.specs.Fmt.{digits}
use Rattle.jcl_symbols.specs.Substitutions.{substituted_from}
use Rattle.jcl_rows.proofs.denoted.has_limits.Goals as goal

pub returns : goal.returns
unfolding digits substituted_from
returns c = record {
  steps_255 = refl;
  steps_256 = refl;
  dds_64 = refl;
  dds_65 = refl;
  dd_names_5 = refl;
  dd_names_6 = refl;
  names_252 = refl;
  names_261 = refl;
}
