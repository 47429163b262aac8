use Rattle.std.proofs.Common.{subst}
use Rattle.std.specs.Prelude.{IfOk}
use Rattle.deck_places.specs.Judging.{AreJudged}
use Rattle.deck_places.proofs.Judged.{all_so}
use Rattle.deck_places.proofs.judge.judge_near.Goals as goal

pub returns-in-Ok : goal.returns-in-Ok
returns-in-Ok c =
    all_so c.args.units.now c.args.library.now c.args.lines.now c.in-Ok.statements.items c.in-Ok.ensures c.judge_statements.result
    (subst (λ s. IfOk c.judge_statements.result (AreJudged c.args.units.now c.args.library.now s)) c.as_slice.ensures.value c.judge_statements.ensures)

pub returns-in-Err-Fault : goal.returns-in-Err-Fault
returns-in-Err-Fault c = c.judge_cards.ensures c.args.units.now c.args.library.now
