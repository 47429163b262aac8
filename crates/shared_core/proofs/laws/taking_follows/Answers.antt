use Rattle.shared_core.proofs.Following.{follow_on}
use Rattle.shared_core.proofs.laws.taking_follows.Goals as goal

pub returns : goal.returns
returns c = λ job places old new few t v. follow_on job old new v places few t
