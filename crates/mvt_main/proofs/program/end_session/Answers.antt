use Rattle.mvt_main.proofs.Saying.{said_both}
use Rattle.mvt_main.proofs.program.end_session.Goals as goal

pub returns-then-prompted : goal.returns-then-prompted
returns-then-prompted g c = record {
  message = c.session_report-status.result.1;
  reported = c.session_report-status.ensures;
  said = said_both _ _ _ _ _ _ c.if-prompted.ensures c.say-said.ensures;
}
