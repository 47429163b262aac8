use Rattle.machine_laws.proofs.WrittenAbends.{written_cancels_come_first}
use Rattle.machine_laws.proofs.written_cancels_come_first.Goals as goal

pub returns : goal.returns
returns c =
    written_cancels_come_first
    (record {
      stand = c.lines_stand.ensures;
      printable = c.texts_stay_printable.ensures;
      said = c.sessions_start_printable.ensures;
      promises = c.promises_of_a_session.ensures;
    })
    c.texts_are_alone.ensures c.whole_text_is_lines.ensures c.cancels_come_first.ensures c.chains_are_runs.ensures
