use Rattle.std.proofs.Common.{◌∙◌, ap}
use Rattle.job_records.specs.Fields.{SctFields, fields_of_sct}
use Rattle.job_records.proofs.There.{step_there}
use Rattle.job_records.proofs.records.JobRecordsJobText.dd_count.Goals as goal

pub returns : goal.returns
returns g c =
    let q = g.S.RecordStore.queue c.args.self.now.store.now in
    let there = step_there q c.args.self.now.jct c.requires.reads.recorded c.args.step c.requires.step in
    let same = (λ i. fields_of_sct (c.sct.ensures.layout i) c.sct.result.bytes.now) ∙ c.sct.ensures.fields in
    c.dds.ensures ∙ ap (λ (f : SctFields). f.dds) same ∙ there.dds
