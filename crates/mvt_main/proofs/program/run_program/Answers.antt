use Rattle.std.proofs.Common.{refl}
use Rattle.std.specs.Prelude.{Ok, Err}
use Rattle.mvt_main.proofs.Saying.{read_as_mvt}
use Rattle.mvt_main.proofs.program.run_program.Goals as goal

pub returns-in-Ok : goal.returns-in-Ok
returns-in-Ok g c = record {
  read = Ok c.in-Ok.asked;
  read_so = read_as_mvt c.mvt.result _ _ c.mvt.ensures.name c.mvt.ensures.flags c.in-Ok.ensures;
  ends = c.end_session.ensures;
}

pub returns-in-Err : goal.returns-in-Err
returns-in-Err g c = record {
  read = Err c.in-Err.error;
  read_so = read_as_mvt c.mvt.result _ _ c.mvt.ensures.name c.mvt.ensures.flags c.in-Err.ensures;
  ends = (refl, refl, c.end_unrun.ensures);
}
