use Rattle.world_laws.proofs.Beside.{turn_keeps}
use Rattle.world_laws.proofs.turn_keeps_part.Goals as goal

pub returns : goal.returns
returns c = λ config old r plan a count own lines new runs job names other compatible h turn.
    turn_keeps config old r plan a count own h lines new runs job names other compatible turn
