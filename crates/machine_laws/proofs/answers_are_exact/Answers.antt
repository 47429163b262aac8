use Rattle.machine_laws.proofs.ExactAnswers.{answers_are_exact}
use Rattle.machine_laws.proofs.answers_are_exact.Goals as goal

pub returns : goal.returns
returns c = answers_are_exact c.is_never_two.ensures c.is_one_answer.ensures c.denoted_has_no_fault.ensures
