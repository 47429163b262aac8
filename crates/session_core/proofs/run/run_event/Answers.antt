use Rattle.session_core.specs.Leaving.{further}
use Rattle.session_core.proofs.Leaving.{left_on_err}
use Rattle.session_core.proofs.run.run_event.Goals as goal

pub returns-in-Ok-clause-left : goal.returns-in-Ok-clause-left
returns-in-Ok-clause-left c = left_on_err _ _ _ (further _ _ c.in-Ok.ensures.answer)

pub returns-in-Err-Refused-clause-left : goal.returns-in-Err-Refused-clause-left
returns-in-Err-Refused-clause-left c = left_on_err _ _ _ (further _ _ (rw c.in-Err-Refused.field-0-is at c.in-Err-Refused.ensures.answer))
