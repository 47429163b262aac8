use Rattle.std.proofs.Common.{refl}
use Rattle.jcl_rows.proofs.values.reads_references.Goals as goal

pub returns : goal.returns
returns c = record {
  dd_alone = refl;
  dd_of_step = refl;
  dd_of_procedure_step = refl;
  step_alone = refl;
  procedure_step = refl;
}
