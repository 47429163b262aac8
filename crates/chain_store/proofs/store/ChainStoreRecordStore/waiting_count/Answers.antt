use Rattle.std.proofs.Common.{◌∙◌, ap, length, sym}
use Rattle.chain_store.specs.Chained.{jobs_in, tables_of}
use Rattle.chain_store.specs.Values.{Linked}
use Rattle.chain_store.proofs.Jobs.{length_ordered}
use Rattle.chain_store.proofs.store.ChainStoreRecordStore.waiting_count.Goals as goal

pub returns : goal.returns
returns c = c.self.invariant.tables.waiting ∙ sym (length_ordered (jobs_in (tables_of c.self.inside))) ∙ ap (λ (v : Linked). length v.queue.waiting) c.self.view_is
