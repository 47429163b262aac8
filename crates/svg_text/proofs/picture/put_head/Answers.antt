use Rattle.svg_text.proofs.Given.{front_of_none}
use Rattle.svg_text.proofs.Joined.{of_any}
use Rattle.svg_text.proofs.picture.put_head.Goals as goal

pub returns-in_err-push_head-clause-err : goal.returns-in_err-push_head-clause-err
returns-in_err-push_head-clause-err g c = of_any c.from_residual.result (front_of_none _ _)
