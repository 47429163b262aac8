use Rattle.std.proofs.Common.{drop}
use Rattle.jcl_procs.specs.Calling.{call_of, denoted}
use Rattle.jcl_procs.specs.Calls.{Call}
use Rattle.jcl_procs.proofs.Rereading.{Goes}
use Rattle.jcl_procs.proofs.calls.tell_steps.Given as goal

abbrev pub invariant-loop-statement : goal.invariant-loop-statement
invariant-loop-statement l =
    (first : Call) × Goes first (call_of l.caller) l.statements (denoted l.place) (drop l.statement-index l.statements)
