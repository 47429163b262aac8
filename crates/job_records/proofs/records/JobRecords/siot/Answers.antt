use Rattle.std.proofs.Common.{subst, sym}
use Rattle.cb_meaning.specs.Spelled.{siot}
use Rattle.cb_read.specs.Kinds.{IsOfKind}
use Rattle.job_records.proofs.There.{dd_there}
use Rattle.job_records.proofs.records.JobRecords.siot.Goals as goal

pub siot_of-requires-clause-kind : goal.siot_of-requires-clause-kind
siot_of-requires-clause-kind g c =
    let q = g.S.RecordStore.queue c.args.self.now.store.now in
    subst (IsOfKind q siot) (sym c.siot_number.ensures)
    (dd_there q c.args.self.now.jct c.requires.reads.recorded c.args.step c.requires.step c.args.dd c.requires.dd).kind
