use Rattle.std.proofs.Common.{◌==◌, ◌∙◌, ap, eqb-true, subst, sym}
use Rattle.jcl_plan.specs.declared.plan.DdPlan.{DdPlan}
use Rattle.cb_meaning.specs.Fields.{byte_at}
use Rattle.cb_meaning.specs.Spelled.{jfcb}
use Rattle.cb_meaning.specs.Writable.{IsExpiry}
use Rattle.cb_queue.specs.RecordQueues.{shown}
use Rattle.cb_read.specs.Chains.{plan_of}
use Rattle.cb_read.specs.Kinds.{IsOfKind}
use Rattle.cb_read.specs.Ranges.{IsVolumeInRange}
use Rattle.job_text.specs.Places.{dd_at, step_at}
use Rattle.job_text.specs.Texts.{take_text}
use Rattle.job_text.specs.declared.texts.TakeText.TheVariants as taking
use Rattle.job_records.specs.Fields.{SiotFields, fields_of_jfcb, fields_of_siot}
use Rattle.job_records.specs.Recorded.{siot_at}
use Rattle.job_records.specs.Said.{expiry_said, take_other_said, take_set_said, volume_said}
use Rattle.job_records.proofs.Meant.{expiry_in_range, take_other_is, take_set_is, volume_in_range}
use Rattle.job_records.proofs.There.{counted, dd_in_range, dd_there}
use Rattle.job_records.proofs.records.JobRecordsJobText.take_text.Goals as goal

pub jfcb-requires-clause-kind : goal.jfcb-requires-clause-kind
jfcb-requires-clause-kind g c =
    let q = g.S.RecordStore.queue c.args.self.now.store.now in
    let there = dd_there q c.args.self.now.jct c.requires.reads.recorded c.args.step c.requires.step c.args.dd c.requires.dd in
    let same = (λ i. fields_of_siot (c.siot-siot.ensures.layout i) c.siot-siot.result.bytes.now) ∙ c.siot-siot.ensures.fields in
    let one = sym (ap (λ (f : SiotFields). f.kind) same) ∙ eqb-true (byte_at c.siot-siot.result.bytes.now 12) 1 (sym c.is_set.ensures ∙ c.if-is_set.true) in
    subst (IsOfKind q jfcb) (sym (ap (λ (f : SiotFields). f.below) same)) (there.below.set one)

pub take_set_said-requires-clause-volume : goal.take_set_said-requires-clause-volume
take_set_said-requires-clause-volume g c =
    let q = g.S.RecordStore.queue c.args.self.now.store.now in
    let there = dd_there q c.args.self.now.jct c.requires.reads.recorded c.args.step c.requires.step c.args.dd c.requires.dd in
    let n = siot_at q c.args.self.now.jct c.args.step c.args.dd in
    let dd = dd_at (step_at (plan_of q c.args.self.now.jct).steps c.args.step).dds c.args.dd in
    let same = (λ i. fields_of_siot (c.siot-siot.ensures.layout i) c.siot-siot.result.bytes.now) ∙ c.siot-siot.ensures.fields in
    let one = sym (ap (λ (f : SiotFields). f.kind) same) ∙ eqb-true (byte_at c.siot-siot.result.bytes.now 12) 1 (sym c.is_set.ensures ∙ c.if-is_set.true) in
    let jfcb_same = (λ i. fields_of_jfcb (c.jfcb.ensures.layout i) c.jfcb.result.bytes.now) ∙ c.jfcb.ensures.fields
    ∙ ap (λ (f : SiotFields). fields_of_jfcb q.layout ((shown q).at f.below)) same in
    let base = volume_in_range q.layout (shown q) ((shown q).at n) one (dd_in_range q n dd there).kind in
    subst (λ f. IsVolumeInRange (volume_said f (fields_of_jfcb c.jfcb.result.layout.now c.jfcb.result.bytes.now))) (sym same)
    (subst (λ f. IsVolumeInRange (volume_said (fields_of_siot q.layout ((shown q).at n)) f)) (sym jfcb_same) base)

pub take_set_said-requires-clause-expiry : goal.take_set_said-requires-clause-expiry
take_set_said-requires-clause-expiry g c =
    let q = g.S.RecordStore.queue c.args.self.now.store.now in
    let there = dd_there q c.args.self.now.jct c.requires.reads.recorded c.args.step c.requires.step c.args.dd c.requires.dd in
    let n = siot_at q c.args.self.now.jct c.args.step c.args.dd in
    let dd = dd_at (step_at (plan_of q c.args.self.now.jct).steps c.args.step).dds c.args.dd in
    let same = (λ i. fields_of_siot (c.siot-siot.ensures.layout i) c.siot-siot.result.bytes.now) ∙ c.siot-siot.ensures.fields in
    let one = sym (ap (λ (f : SiotFields). f.kind) same) ∙ eqb-true (byte_at c.siot-siot.result.bytes.now 12) 1 (sym c.is_set.ensures ∙ c.if-is_set.true) in
    let jfcb_same = (λ i. fields_of_jfcb (c.jfcb.ensures.layout i) c.jfcb.result.bytes.now) ∙ c.jfcb.ensures.fields
    ∙ ap (λ (f : SiotFields). fields_of_jfcb q.layout ((shown q).at f.below)) same in
    subst (λ f. IsExpiry (expiry_said f)) (sym jfcb_same) (expiry_in_range q.layout (shown q) ((shown q).at n) one (dd_in_range q n dd there).kind)

pub returns-then-is_set : goal.returns-then-is_set
returns-then-is_set g c =
    let q = g.S.RecordStore.queue c.args.self.now.store.now in
    let there = dd_there q c.args.self.now.jct c.requires.reads.recorded c.args.step c.requires.step c.args.dd c.requires.dd in
    let n = siot_at q c.args.self.now.jct c.args.step c.args.dd in
    let dd = dd_at (step_at (plan_of q c.args.self.now.jct).steps c.args.step).dds c.args.dd in
    let same = (λ i. fields_of_siot (c.siot-siot.ensures.layout i) c.siot-siot.result.bytes.now) ∙ c.siot-siot.ensures.fields in
    let one = sym (ap (λ (f : SiotFields). f.kind) same) ∙ eqb-true (byte_at c.siot-siot.result.bytes.now 12) 1 (sym c.is_set.ensures ∙ c.if-is_set.true) in
    let jfcb_same = (λ i. fields_of_jfcb (c.jfcb.ensures.layout i) c.jfcb.result.bytes.now) ∙ c.jfcb.ensures.fields
    ∙ ap (λ (f : SiotFields). fields_of_jfcb q.layout ((shown q).at f.below)) same in
    ap taking.Set (c.take_set_said.ensures ∙ (λ i. take_set_said (same i) (jfcb_same i)))
    ∙ sym (take_set_is q.layout (shown q) ((shown q).at n) (counted q n dd there) one) ∙ sym (ap (λ (d : DdPlan). take_text d.kind) there.is)

pub returns : goal.returns
returns g c =
    let q = g.S.RecordStore.queue c.args.self.now.store.now in
    let there = dd_there q c.args.self.now.jct c.requires.reads.recorded c.args.step c.requires.step c.args.dd c.requires.dd in
    let n = siot_at q c.args.self.now.jct c.args.step c.args.dd in
    let dd = dd_at (step_at (plan_of q c.args.self.now.jct).steps c.args.step).dds c.args.dd in
    let same = (λ i. fields_of_siot (c.siot-siot.ensures.layout i) c.siot-siot.result.bytes.now) ∙ c.siot-siot.ensures.fields in
    let other = sym (ap (λ (f : SiotFields). f.kind == 1) same) ∙ sym c.is_set.ensures ∙ c.if-is_set.false in
    c.take_other_said.ensures ∙ ap take_other_said same ∙ sym (take_other_is q.layout (shown q) ((shown q).at n) (counted q n dd there) other)
    ∙ sym (ap (λ (d : DdPlan). take_text d.kind) there.is)
