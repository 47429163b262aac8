use Rattle.std.proofs.Common.{◌∙◌, ap, sym}
use Rattle.job_text.specs.Texts.{put_text}
use Rattle.job_records.specs.Fields.{fields_of_siot}
use Rattle.job_records.specs.Said.{put_said}
use Rattle.job_records.proofs.Meant.{put_is}
use Rattle.job_records.proofs.There.{dd_there}
use Rattle.jcl_plan.specs.declared.plan.DdPlan.{DdPlan}
use Rattle.cb_queue.specs.RecordQueues.{shown}
use Rattle.job_records.specs.Recorded.{siot_at}
use Rattle.job_records.proofs.records.JobRecordsJobText.put_text.Goals as goal

pub returns : goal.returns
returns g c =
    let q = g.S.RecordStore.queue c.args.self.now.store.now in
    let there = dd_there q c.args.self.now.jct c.requires.reads.recorded c.args.step c.requires.step c.args.dd c.requires.dd in
    let same = (λ i. fields_of_siot (c.siot.ensures.layout i) c.siot.result.bytes.now) ∙ c.siot.ensures.fields in
    let n = siot_at q c.args.self.now.jct c.args.step c.args.dd in
    c.put_said.ensures ∙ ap put_said same ∙ sym (put_is q.layout (shown q) ((shown q).at n)) ∙ sym (ap (λ (d : DdPlan). put_text d.kind) there.is)
