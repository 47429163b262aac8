use Rattle.std.proofs.Common.{◌∙◌, ap, subst, sym}
use Rattle.cb_meaning.specs.Readings.{name_read}
use Rattle.cb_meaning.specs.Writable.{IsName}
use Rattle.job_records.specs.Fields.{SiotFields, fields_of_siot}
use Rattle.job_records.proofs.There.{dd_in_range, dd_there}
use Rattle.jcl_plan.specs.declared.plan.DdPlan.{DdPlan}
use Rattle.cb_read.specs.Chains.{plan_of}
use Rattle.job_text.specs.Places.{dd_at, step_at}
use Rattle.job_records.specs.Recorded.{siot_at}
use Rattle.job_records.proofs.records.JobRecordsJobText.dd_name.Goals as goal

pub name_read-requires : goal.name_read-requires
name_read-requires g c =
    let q = g.S.RecordStore.queue c.args.self.now.store.now in
    let there = dd_there q c.args.self.now.jct c.requires.reads.recorded c.args.step c.requires.step c.args.dd c.requires.dd in
    let same = (λ i. fields_of_siot (c.siot.ensures.layout i) c.siot.result.bytes.now) ∙ c.siot.ensures.fields in
    let n = siot_at q c.args.self.now.jct c.args.step c.args.dd in
    let dd = dd_at (step_at (plan_of q c.args.self.now.jct).steps c.args.step).dds c.args.dd in
    subst (λ t. IsName (name_read t)) (sym (c.name.ensures ∙ ap (λ (f : SiotFields). f.name) same)) (dd_in_range q n dd there).name

pub returns : goal.returns
returns g c =
    let q = g.S.RecordStore.queue c.args.self.now.store.now in
    let there = dd_there q c.args.self.now.jct c.requires.reads.recorded c.args.step c.requires.step c.args.dd c.requires.dd in
    let same = (λ i. fields_of_siot (c.siot.ensures.layout i) c.siot.result.bytes.now) ∙ c.siot.ensures.fields in
    c.name_read.ensures ∙ ap name_read (c.name.ensures ∙ ap (λ (f : SiotFields). f.name) same) ∙ sym (ap (λ (d : DdPlan). d.name) there.is)
