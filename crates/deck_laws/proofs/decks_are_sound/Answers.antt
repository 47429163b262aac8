use Rattle.deck_laws.proofs.Decks.{decks_are_sound}
use Rattle.deck_laws.proofs.decks_are_sound.Goals as goal

pub returns : goal.returns
returns c = decks_are_sound
