use Rattle.turn_laws.proofs.Decided.{turns_are_decided}
use Rattle.turn_laws.proofs.turns_are_decided.Goals as goal

pub returns : goal.returns
returns c = turns_are_decided
