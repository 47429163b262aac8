use Rattle.jcl_meaning.specs.Solo.{at_start, given}
use Rattle.path_laws.proofs.Making.{made_configured}
use Rattle.path_laws.proofs.made_is_configured.Goals as goal

pub returns : goal.returns
returns c = λ fixed plan store p m. made_configured plan fixed (at_start store (given m.outcomes)) p m.made
