use Rattle.start_laws.proofs.Explanations.{explanation_is_few}
use Rattle.start_laws.proofs.explanation_is_few.Goals as goal

pub returns : goal.returns
returns c = explanation_is_few
