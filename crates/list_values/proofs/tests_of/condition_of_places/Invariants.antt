use Rattle.std.proofs.Common.{length}
use Rattle.list_values.specs.Found.{Continues}
use Rattle.list_values.proofs.tests_of.condition_of_places.Given as goal

abbrev pub invariant-loop-place : goal.invariant-loop-place
invariant-loop-place l = Continues l.steps l.found l.places l.fn.places

abbrev pub decreases-loop-place : goal.decreases-loop-place
decreases-loop-place l = length l.places
