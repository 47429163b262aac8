use Rattle.deck_laws.proofs.Expansions.{steps_are_sound}
use Rattle.deck_laws.proofs.steps_are_sound.Goals as goal

pub returns : goal.returns
returns c = steps_are_sound
