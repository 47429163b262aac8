use Rattle.std.proofs.Common.{OnOk, subst, sym}
use Rattle.mvt_check.specs.Cards.{OneAnswers}
use Rattle.mvt_check.proofs.asides.put_answer.Goals as goal

pub returns-in-Some : goal.returns-in-Some
returns-in-Some c =
    subst (λ r. OnOk c.put_read.result (OneAnswers c.args.deck c.args.known.answers.now r c.put_read.new.asides.items)) (sym c.in-Some.is) c.put_read.ensures
