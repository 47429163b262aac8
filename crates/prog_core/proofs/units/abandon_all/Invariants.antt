use Rattle.std.proofs.Common.{◌≡◌}
use Rattle.prog_core.proofs.OperationLemmas.{without_first}
use Rattle.prog_core.proofs.units.abandon_all.Given as goal

abbrev pub invariant-loop-operation : goal.invariant-loop-operation
invariant-loop-operation l = l.operations ≡ without_first l.job l.operation-index l.fn.operations
