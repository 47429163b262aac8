use Rattle.std.proofs.Common.{◌≡◌, drop}
use Rattle.jcl_procs.specs.Calls.{steps_from, steps_of}
use Rattle.jcl_procs.specs.Calling.{call_of, denoted}
use Rattle.jcl_procs.proofs.calls.steps_again.Given as goal

abbrev pub invariant-loop-at : goal.invariant-loop-at
invariant-loop-at l = steps_of (call_of l.caller) l.statements ≡ steps_from (call_of l.caller) (denoted l.place) (drop l.at l.statements)
