use Rattle.cb_queue.proofs.Changing.{shows_owner}
use Rattle.cb_queue.proofs.laws.shows_records.Goals as goal

pub returns : goal.returns
returns c = λ q sound n. record { free = sound.free n; owner = shows_owner q sound n }
