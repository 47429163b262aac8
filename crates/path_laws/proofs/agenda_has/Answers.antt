use Rattle.path_laws.proofs.Parts.{agenda_has}
use Rattle.path_laws.proofs.agenda_has.Goals as goal

pub returns : goal.returns
returns c = agenda_has
