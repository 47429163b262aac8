use Rattle.std.proofs.Common.{◌≡◌, drop}
use Rattle.jcl_procs.specs.Expansions.{in_deck}
use Rattle.jcl_procs.proofs.bodies.in_deck.Given as goal

abbrev pub invariant-loop-procedure : goal.invariant-loop-procedure
invariant-loop-procedure l = in_deck l.procedures l.name ≡ in_deck (drop l.procedure-index l.procedures) l.name
