use Rattle.keep_laws.proofs.Events.{events_keep_no_more}
use Rattle.keep_laws.proofs.events_keep_no_more.Goals as goal

pub returns : goal.returns
returns c = events_keep_no_more
