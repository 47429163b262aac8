use Rattle.machine_laws.proofs.WrittenAbends.{written_growth_is_refused}
use Rattle.machine_laws.proofs.written_growth_is_refused.Goals as goal

pub returns : goal.returns
returns c =
    written_growth_is_refused
    (record {
      stand = c.lines_stand.ensures;
      printable = c.texts_stay_printable.ensures;
      said = c.sessions_start_printable.ensures;
      promises = c.promises_of_a_session.ensures;
    })
    c.texts_are_alone.ensures c.actions_are_told.ensures c.refused_growth_is_told.ensures
