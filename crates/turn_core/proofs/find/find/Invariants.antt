use Rattle.std.proofs.Common.{length}
use Rattle.jcl_meaning.specs.Programs.{moves_of}
use Rattle.turn_core.specs.Passing.{Passes}
use Rattle.turn_core.specs.Places.{agenda_at}
use Rattle.turn_core.proofs.find.find.Given as goal

abbrev pub invariant-loop-task : goal.invariant-loop-task
invariant-loop-task g l = Passes l.own (agenda_at (moves_of l.programs) (g.T.JobText.plan l.text).steps l.fn.place) (agenda_at (moves_of l.programs) (g.T.JobText.plan l.text).steps l.todo)

abbrev pub decreases-loop-task : goal.decreases-loop-task
decreases-loop-task g l = length (agenda_at (moves_of l.programs) (g.T.JobText.plan l.text).steps l.todo)
