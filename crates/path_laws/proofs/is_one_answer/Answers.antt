use Rattle.path_laws.proofs.OneAnswer.{is_one_answer}
use Rattle.path_laws.proofs.is_one_answer.Goals as goal

pub returns : goal.returns
returns c = is_one_answer
