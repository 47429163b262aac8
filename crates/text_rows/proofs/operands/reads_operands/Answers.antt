use Rattle.std.proofs.Common.{refl}
use Rattle.text_rows.proofs.operands.reads_operands.Goals as goal

pub returns : goal.returns
returns c = record {
  parts = refl;
  least_fault = refl;
}
