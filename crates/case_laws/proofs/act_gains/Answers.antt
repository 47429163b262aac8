use Rattle.case_laws.proofs.Gaining.{act_gains}
use Rattle.case_laws.proofs.act_gains.Goals as goal

pub returns : goal.returns
returns c = act_gains
