use Rattle.machine_laws.proofs.KeptInText.{assured_kept}
use Rattle.machine_laws.proofs.assured_lines_are_kept.Goals as goal

pub returns : goal.returns
returns c =
    assured_kept
    (record {
      stand = c.lines_stand.ensures;
      printable = c.texts_stay_printable.ensures;
      said = c.sessions_start_printable.ensures;
      promises = c.promises_of_a_session.ensures;
    })
    c.lines_are_texts.ensures c.lines_of_jobs.ensures c.texts_are_alone.ensures c.chains_are_runs.ensures
