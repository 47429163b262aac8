use Rattle.std.proofs.Common.{◌≡◌, length}
use Rattle.deck_places.specs.Stands.{next_exec}
use Rattle.deck_places.proofs.stands.next_exec.Given as goal

abbrev pub invariant-loop-first : goal.invariant-loop-first
invariant-loop-first l = next_exec l.fn.own ≡ next_exec l.rest

abbrev pub decreases-loop-first : goal.decreases-loop-first
decreases-loop-first l = length l.rest
