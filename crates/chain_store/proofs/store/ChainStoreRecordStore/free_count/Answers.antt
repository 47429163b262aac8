use Rattle.std.proofs.Common.{◌∙◌, ap, length}
use Rattle.chain_store.specs.Chained.{tables_of}
use Rattle.chain_store.specs.Values.{Linked}
use Rattle.chain_store.proofs.Ops.{free_size}
use Rattle.chain_store.proofs.store.ChainStoreRecordStore.free_count.Goals as goal

pub returns : goal.returns
returns c = free_size (tables_of c.self.inside) c.self.invariant.tables ∙ ap (λ (v : Linked). length v.queue.free) c.self.view_is
