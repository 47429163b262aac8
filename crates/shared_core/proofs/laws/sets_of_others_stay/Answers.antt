use Rattle.std.proofs.Common.{ℕ, List, Option, ap}
use Rattle.jcl_meaning.specs.declared.store.DataSet.{DataSet}
use Rattle.vtoc_core.specs.declared.entry.SetKey.{SetKey}
use Rattle.shared_core.specs.Shown.{world_store_of}
use Rattle.shared_core.proofs.OwnSets.{written_back}
use Rattle.shared_core.proofs.laws.sets_of_others_stay.Goals as goal

pub returns : goal.returns
returns c = λ job old new h. written_back job (world_store_of old) (world_store_of new) (λ k v. ap (λ (set : SetKey → List ℕ → Option DataSet). set k v) h)
