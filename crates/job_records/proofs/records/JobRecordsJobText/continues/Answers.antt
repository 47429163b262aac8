use Rattle.std.proofs.Common.{◌∙◌, ap, sym}
use Rattle.jcl_meaning.specs.Programs.{is_continued}
use Rattle.jcl_plan.specs.declared.plan.DdPlan.{DdPlan}
use Rattle.cb_meaning.specs.Readings.{name_read}
use Rattle.job_records.specs.Fields.{SiotFields, fields_of_siot}
use Rattle.job_records.proofs.There.{dd_there}
use Rattle.job_records.proofs.records.JobRecordsJobText.continues.Goals as goal

pub returns : goal.returns
returns g c =
    let q = g.S.RecordStore.queue c.args.self.now.store.now in
    let there = dd_there q c.args.self.now.jct c.requires.reads.recorded c.args.step c.requires.step c.args.dd c.requires.dd in
    let same = (λ i. fields_of_siot (c.siot.ensures.layout i) c.siot.result.bytes.now) ∙ c.siot.ensures.fields in
    c.continues.ensures ∙ ap (λ (f : SiotFields). is_continued (name_read f.name)) same ∙ sym (ap (λ (d : DdPlan). is_continued d.name) there.is)
