use Rattle.std.proofs.Common.{subst, sym}
use Rattle.cb_meaning.specs.Spelled.{sct}
use Rattle.cb_read.specs.Kinds.{IsOfKind}
use Rattle.job_records.proofs.There.{step_there}
use Rattle.job_records.proofs.records.JobRecords.sct.Goals as goal

pub sct_of-requires-clause-kind : goal.sct_of-requires-clause-kind
sct_of-requires-clause-kind g c =
    let q = g.S.RecordStore.queue c.args.self.now.store.now in
    subst (IsOfKind q sct) (sym c.sct_number.ensures) (step_there q c.args.self.now.jct c.requires.reads.recorded c.args.step c.requires.step).kind
