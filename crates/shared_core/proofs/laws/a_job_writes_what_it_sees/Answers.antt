use Rattle.std.proofs.Common.{ap}
use Rattle.shared_core.specs.Rooms.{Others}
use Rattle.shared_core.specs.Shown.{world_store_of}
use Rattle.shared_core.proofs.OwnSets.{written_back}
use Rattle.shared_core.proofs.laws.a_job_writes_what_it_sees.Goals as goal

pub returns : goal.returns
returns c = λ job old new h. written_back job (world_store_of old) (world_store_of new) (λ k v. ap (λ (o : Others). o.set k v) h)
