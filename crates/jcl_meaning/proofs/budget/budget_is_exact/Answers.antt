use Rattle.jcl_meaning.proofs.Budgets.{budget_is-length}
use Rattle.jcl_meaning.proofs.budget.budget_is_exact.Goals as goal

pub returns : goal.returns
returns c = budget_is-length
