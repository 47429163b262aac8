use Rattle.event_laws.proofs.Named.{answers_meet}
use Rattle.event_laws.proofs.answers_meet.Goals as goal

pub returns : goal.returns
returns c = answers_meet
