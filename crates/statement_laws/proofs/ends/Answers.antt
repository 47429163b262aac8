use Rattle.std.proofs.Common.{refl}
use Rattle.statement_laws.proofs.ends.Goals as goal

pub returns : goal.returns
returns c = record {
  job = refl;
  program = refl;
  call = refl;
  set_of_44 = (refl, refl);
  base_of_35 = (refl, refl);
  temporary = (refl, refl);
  serial_of_6 = (refl, refl);
  volume_of_44 = (refl, refl);
  tracks = (refl, refl);
  class = (refl, refl);
}
