use Rattle.verdict_laws.proofs.Agreeing.{agree}
use Rattle.verdict_laws.proofs.verdicts_agree.Goals as goal

pub returns : goal.returns
returns c = agree c.is_never_two.ensures c.is_one_answer.ensures
