use Rattle.std.proofs.Common.{◌≡◌, drop}
use Rattle.std.specs.List.{position_from}
use Rattle.deck_places.specs.Called.{begins_procedure, proc_of}
use Rattle.deck_places.proofs.called.proc_of.Given as goal

abbrev pub invariant-loop-n : goal.invariant-loop-n
invariant-loop-n l = proc_of l.name l.statements ≡ position_from (begins_procedure l.name) l.n (drop l.n l.statements)
