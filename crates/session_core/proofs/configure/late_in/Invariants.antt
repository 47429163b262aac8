use Rattle.std.proofs.Common.{◌≡◌, drop}
use Rattle.session_core.specs.Configuring.{late_in}
use Rattle.session_core.proofs.configure.late_in.Given as goal

-- none of the statements before is configuration
abbrev pub invariant-loop-statement : goal.invariant-loop-statement
invariant-loop-statement l = record {
  later : late_in l.fn.config l.statements ≡ late_in l.fn.config (drop l.statement-index l.statements);
  same : l.config ≡ l.fn.config;
}
