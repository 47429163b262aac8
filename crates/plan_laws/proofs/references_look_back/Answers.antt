use Rattle.plan_laws.proofs.Placing.{references_look_back}
use Rattle.plan_laws.proofs.references_look_back.Goals as goal

pub returns : goal.returns
returns c = references_look_back
