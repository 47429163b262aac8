use Rattle.std.proofs.Common.{◌-◌, ◌≤◌, arith, length, subst}
use Rattle.cb_queue.specs.RecordQueues.{last_in_use}
use Rattle.cb_queue.proofs.LastInUse.{last_known}
use Rattle.chain_store.specs.Chained.{known_records, tables_of}
use Rattle.chain_store.specs.Links.{unlinked_all}
use Rattle.chain_store.specs.Values.{Linked}
use Rattle.chain_store.proofs.Known.{length-known}
use Rattle.chain_store.proofs.Ops.{few_records, room}
use Rattle.chain_store.proofs.store.ChainStoreRecordStore.last_in_use.Goals as goal

pub overflow_cast-result : goal.overflow_cast-result
overflow_cast-result c =
    let h = c.self.invariant.tables in
    let few = few_records (tables_of c.self.inside) h in
    let most = h.most in
    let whole = c.self.inside.owners.ok.0 in
    let size = c.len.ensures in
    omega (arith, few, most, whole, size)

pub returns-clause-reaches : goal.returns-clause-reaches
returns-clause-reaches c =
    let t = tables_of c.self.inside in
    let last = last_known (known_records t) (t.layout.most_records - length t.owners) in
    let known = length-known t.owners (unlinked_all t.layout t.records) (room t c.self.invariant.tables) in
    let whole = c.self.inside.owners.ok.0 in
    let size = c.len.ensures in
    subst (λ (v : Linked). last_in_use v.queue.records ≤ c.len.result) c.self.view_is (omega (arith, last, known, whole, size))

pub returns-clause-few : goal.returns-clause-few
returns-clause-few c =
    let most = c.self.invariant.tables.most in
    let whole = c.self.inside.owners.ok.0 in
    let size = c.len.ensures in
    subst (λ (v : Linked). c.len.result ≤ v.queue.layout.most_records) c.self.view_is (omega (arith, most, whole, size))
