use Rattle.std.proofs.Common.{◌==◌, ◌∙◌, ap, eqb-true, subst, sym}
use Rattle.jcl_meaning.specs.Plans.{passes}
use Rattle.jcl_plan.specs.declared.plan.DdPlan.{DdPlan}
use Rattle.cb_meaning.specs.Fields.{byte_at}
use Rattle.cb_meaning.specs.Spelled.{jfcb}
use Rattle.cb_queue.specs.RecordQueues.{shown}
use Rattle.cb_read.specs.Kinds.{IsOfKind}
use Rattle.job_records.specs.Fields.{SiotFields, fields_of_jfcb, fields_of_siot}
use Rattle.job_records.specs.Recorded.{siot_at}
use Rattle.job_records.specs.Said.{set_passes}
use Rattle.job_records.proofs.Meant.{none_passes, set_passes_is}
use Rattle.job_records.proofs.There.{dd_there}
use Rattle.job_records.proofs.records.JobRecordsJobText.passes.Goals as goal

pub jfcb-requires-clause-kind : goal.jfcb-requires-clause-kind
jfcb-requires-clause-kind g c =
    let q = g.S.RecordStore.queue c.args.self.now.store.now in
    let there = dd_there q c.args.self.now.jct c.requires.reads.recorded c.args.step c.requires.step c.args.dd c.requires.dd in
    let same = (λ i. fields_of_siot (c.siot-siot.ensures.layout i) c.siot-siot.result.bytes.now) ∙ c.siot-siot.ensures.fields in
    let one = sym (ap (λ (f : SiotFields). f.kind) same) ∙ eqb-true (byte_at c.siot-siot.result.bytes.now 12) 1 (sym c.is_set.ensures ∙ c.if-is_set.true) in
    subst (IsOfKind q jfcb) (sym (ap (λ (f : SiotFields). f.below) same)) (there.below.set one)

pub returns-then-is_set : goal.returns-then-is_set
returns-then-is_set g c =
    let q = g.S.RecordStore.queue c.args.self.now.store.now in
    let there = dd_there q c.args.self.now.jct c.requires.reads.recorded c.args.step c.requires.step c.args.dd c.requires.dd in
    let n = siot_at q c.args.self.now.jct c.args.step c.args.dd in
    let same = (λ i. fields_of_siot (c.siot-siot.ensures.layout i) c.siot-siot.result.bytes.now) ∙ c.siot-siot.ensures.fields in
    let one = sym (ap (λ (f : SiotFields). f.kind) same) ∙ eqb-true (byte_at c.siot-siot.result.bytes.now 12) 1 (sym c.is_set.ensures ∙ c.if-is_set.true) in
    let jfcb_same = (λ i. fields_of_jfcb (c.jfcb.ensures.layout i) c.jfcb.result.bytes.now) ∙ c.jfcb.ensures.fields
    ∙ ap (λ (f : SiotFields). fields_of_jfcb q.layout ((shown q).at f.below)) same in
    c.set_passes.ensures ∙ (λ i. set_passes (same i) (jfcb_same i)) ∙ sym (set_passes_is q.layout (shown q) ((shown q).at n) one)
    ∙ sym (ap (λ (d : DdPlan). passes d.kind) there.is)

pub returns : goal.returns
returns g c =
    let q = g.S.RecordStore.queue c.args.self.now.store.now in
    let there = dd_there q c.args.self.now.jct c.requires.reads.recorded c.args.step c.requires.step c.args.dd c.requires.dd in
    let n = siot_at q c.args.self.now.jct c.args.step c.args.dd in
    let same = (λ i. fields_of_siot (c.siot-siot.ensures.layout i) c.siot-siot.result.bytes.now) ∙ c.siot-siot.ensures.fields in
    let other = sym (ap (λ (f : SiotFields). f.kind == 1) same) ∙ sym c.is_set.ensures ∙ c.if-is_set.false in
    sym (none_passes q.layout (shown q) ((shown q).at n) other) ∙ sym (ap (λ (d : DdPlan). passes d.kind) there.is)
