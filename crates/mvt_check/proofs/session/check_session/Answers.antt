use Rattle.std.proofs.Common.{inr}
use Rattle.std.proofs.lemmas.Result.{IfOk-weaker}
use Rattle.mvt_check.specs.Checking.{IsFound, IsLookedAt}
use Rattle.mvt_check.proofs.Faults.{stops_found}
use Rattle.mvt_check.proofs.session.check_session.Goals as goal

pub returns-in-Ok : goal.returns-in-Ok
returns-in-Ok c =
    IfOk-weaker c.found_opened.result (IsLookedAt c.args.options c.args.above c.args.statements.now)
    (IsFound c.args.options c.args.above c.args.statements.now) (λ found so. inr so)
    c.found_opened.ensures

pub returns-in-Err : goal.returns-in-Err
returns-in-Err c =
    stops_found c.args.options c.args.above c.args.statements.now c.in-Err.why c.found_unopened.result (c.in-Err.ensures.err c.args.options) c.found_unopened.ensures
