use Rattle.std.proofs.Common.{take, drop}
use Rattle.session_core.proofs.Configured.{Configured}
use Rattle.session_core.proofs.configure.configure.Given as goal

abbrev pub invariant-loop-at : goal.invariant-loop-at
invariant-loop-at l = Configured l.statements (take l.at l.statements) (drop l.at l.statements) l.config
