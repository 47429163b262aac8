use Rattle.jcl_procs.specs.Calling.{call_of, denoted}
use Rattle.jcl_procs.proofs.Remembering.{Remembers}
use Rattle.jcl_procs.proofs.calls.steps_remembered.Given as goal

abbrev pub invariant-loop-statement : goal.invariant-loop-statement
invariant-loop-statement l = Remembers (call_of l.caller) l.statements (denoted l.place) l.statement-index l.dds.items
