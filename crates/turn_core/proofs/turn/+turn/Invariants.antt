use Rattle.std.proofs.Common.{length}
use Rattle.jcl_meaning.specs.Programs.{moves_of}
use Rattle.turn_core.specs.Places.{agenda_at}
use Rattle.turn_core.proofs.turn.+turn.Given as goal

abbrev pub decreases-turn : goal.decreases-turn
decreases-turn g l = length (agenda_at (moves_of l.setting.now.programs.now) (g.T.JobText.plan l.text.now).steps l.walk.now.todo)
