use Rattle.std.proofs.Common.{arith}
use Rattle.jcl_meaning.specs.Agendas.{agenda}
use Rattle.jcl_meaning.specs.Solo.{answers_of, at_start}
use Rattle.jcl_meaning.proofs.Budgets.{budget_is-length}
use Rattle.jcl_meaning.proofs.LineCounts.{run-beside, run-clean}
use Rattle.jcl_meaning.proofs.budget.runs_keep_to_their_actions.Goals as goal

pub returns : goal.returns
returns c = record {
  lines = run-beside;
  clean = run-clean;
  budget = λ fixed plan store programs answers h.
      omega (arith, budget_is-length plan programs, run-clean fixed (agenda plan programs) (at_start store (answers_of plan programs answers)) h);
}
