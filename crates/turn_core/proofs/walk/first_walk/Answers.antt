use Rattle.turn_core.proofs.Standing.{none_done, stands_first}
use Rattle.turn_core.proofs.walk.first_walk.Goals as goal

pub returns-clause-first : goal.returns-clause-first
returns-clause-first c = λ plan programs. (stands_first plan programs, none_done plan programs)
