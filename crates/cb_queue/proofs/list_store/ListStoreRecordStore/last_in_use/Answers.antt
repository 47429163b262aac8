use Rattle.std.proofs.Common.{◌≤◌, arith, subst}
use Rattle.cb_queue.specs.RecordQueues.{last_in_use}
use Rattle.cb_queue.specs.Stored.{seen}
use Rattle.cb_queue.proofs.LastInUse.{last_within}
use Rattle.cb_queue.proofs.list_store.ListStoreRecordStore.last_in_use.Goals as goal

pub returns-clause-reaches : goal.returns-clause-reaches
returns-clause-reaches c =
    let within = last_within (seen c.self.inside).records in
    let size = c.self.invariant.0.sound.size in
    subst (λ q. last_in_use q.records ≤ c.self.inside.layout.most_records) c.self.view_is (omega (arith, within, size))

pub returns-clause-few : goal.returns-clause-few
returns-clause-few c = subst (λ q. c.self.inside.layout.most_records ≤ q.layout.most_records) c.self.view_is (omega arith)
