use Rattle.std.proofs.Common.{◌≡◌, ◌+◌, ◌<◌, ◌∙◌, ap, arith, inl, inr, length, subst, suc, sym}
use Rattle.std.proofs.lemmas.Bool.{cases_eq}
use Rattle.jcl_meaning.specs.Programs.{is_named}
use Rattle.jcl_plan.specs.declared.plan.DdKind.TheVariants.{Dummy}
use Rattle.cb_meaning.specs.Readings.{name_read}
use Rattle.cb_meaning.specs.Spelled.{siot}
use Rattle.cb_queue.specs.RecordQueues.{shown}
use Rattle.cb_read.specs.Chains.{plan_of}
use Rattle.cb_read.specs.Kinds.{IsOfKind}
use Rattle.job_text.specs.Places.{dd_at, no_dd, step_at}
use Rattle.job_records.specs.Fields.{SctFields, SiotFields, fields_of_sct, fields_of_siot}
use Rattle.job_records.specs.Recorded.{next_dd, siot_at}
use Rattle.job_records.proofs.Meant.{found_at, found_nowhere}
use Rattle.job_records.proofs.There.{dd_there, step_there}
use Rattle.job_records.proofs.records.JobRecordsJobText.dd_named.Goals as goal

pub loop-dd-init : goal.loop-dd-init
loop-dd-init g c =
    let q = g.S.RecordStore.queue c.args.self.now.store.now in
    let same = (λ i. fields_of_sct (c.sct-sct.ensures.layout i) c.sct-sct.result.bytes.now) ∙ c.sct-sct.ensures.fields in
    record {
      few = omega arith;
      all = c.dds-count.ensures ∙ ap (λ (f : SctFields). f.dds) same ∙ (step_there q c.args.self.now.jct c.requires.reads.recorded c.args.step c.requires.step).dds;
      n = c.first_dd-n.ensures ∙ ap (λ (f : SctFields). f.first_dd) same;
      none = λ k less. absurd (omega (arith, less));
    }

pub siot_of-siot-requires-clause-kind : goal.siot_of-siot-requires-clause-kind
siot_of-siot-requires-clause-kind g c =
    let q = g.S.RecordStore.queue c.args.self.now.store.now in
    let dds = (step_at (plan_of q c.args.self.now.jct).steps c.args.step).dds in
    let inside = c.loop-dd-test.true in
    let all = c.loop-dd.invariant.all in
    let less : c.loop-dd.dd < length dds = omega (arith, inside, all) in
    let there = dd_there q c.args.self.now.jct c.requires.reads.recorded c.args.step c.requires.step c.loop-dd.dd less in
    subst (IsOfKind q siot) (sym c.loop-dd.invariant.n) there.kind

pub returns-then-is_named : goal.returns-then-is_named
returns-then-is_named g c =
    let q = g.S.RecordStore.queue c.args.self.now.store.now in
    let dds = (step_at (plan_of q c.args.self.now.jct).steps c.args.step).dds in
    let inside = c.loop-dd-test.true in
    let all = c.loop-dd.invariant.all in
    let less : c.loop-dd.dd < length dds = omega (arith, inside, all) in
    let there = dd_there q c.args.self.now.jct c.requires.reads.recorded c.args.step c.requires.step c.loop-dd.dd less in
    let same = (λ i. fields_of_siot (c.siot_of-siot.ensures.layout i) c.siot_of-siot.result.bytes.now) ∙ c.siot_of-siot.ensures.fields in
    let told : c.is_named.result ≡ is_named c.args.name.now (dd_at dds c.loop-dd.dd) =
    c.is_named.ensures ∙ ap (λ (f : SiotFields). is_named c.args.name.now (record { name = name_read f.name; kind = Dummy }))
    (same ∙ ap (λ m. fields_of_siot q.layout ((shown q).at m)) c.loop-dd.invariant.n) ∙ sym (ap (is_named c.args.name.now) there.is) in
    sym (found_at (is_named c.args.name.now) dds no_dd c.loop-dd.dd less c.loop-dd.invariant.none (sym told ∙ c.if-is_named.true))

pub loop-dd-preserved : goal.loop-dd-preserved
loop-dd-preserved g c =
    let q = g.S.RecordStore.queue c.args.self.now.store.now in
    let dds = (step_at (plan_of q c.args.self.now.jct).steps c.args.step).dds in
    let inside = c.loop-dd-test.true in
    let all = c.loop-dd.invariant.all in
    let less : c.loop-dd.dd < length dds = omega (arith, inside, all) in
    let there = dd_there q c.args.self.now.jct c.requires.reads.recorded c.args.step c.requires.step c.loop-dd.dd less in
    let same = (λ i. fields_of_siot (c.siot_of-siot.ensures.layout i) c.siot_of-siot.result.bytes.now) ∙ c.siot_of-siot.ensures.fields in
    let told : c.is_named.result ≡ is_named c.args.name.now (dd_at dds c.loop-dd.dd) =
    c.is_named.ensures ∙ ap (λ (f : SiotFields). is_named c.args.name.now (record { name = name_read f.name; kind = Dummy }))
    (same ∙ ap (λ m. fields_of_siot q.layout ((shown q).at m)) c.loop-dd.invariant.n) ∙ sym (ap (is_named c.args.name.now) there.is) in
    let more : suc c.loop-dd.dd ≡ c.loop-dd.dd + 1 = omega arith in
    record {
      few = omega (arith, inside);
      all = all;
      n = c.next-n.ensures ∙ ap (λ (f : SiotFields). f.next) same ∙ ap (next_dd q) c.loop-dd.invariant.n ∙ ap (siot_at q c.args.self.now.jct c.args.step) more;
      none = λ k before. elim (cases_eq k c.loop-dd.dd) [
        | inl e ↦ ap (λ m. is_named c.args.name.now (dd_at dds m)) e ∙ sym told ∙ c.if-is_named.false
        | inr apart ↦ c.loop-dd.invariant.none k (omega (arith, before, apart))
      ];
    }

pub returns : goal.returns
returns g c =
    let q = g.S.RecordStore.queue c.args.self.now.store.now in
    let dds = (step_at (plan_of q c.args.self.now.jct).steps c.args.step).dds in
    let few = c.loop-dd.invariant.few in
    let all = c.loop-dd.invariant.all in
    let last = c.loop-dd-test.false in
    sym (found_nowhere (is_named c.args.name.now) dds no_dd (λ k less. c.loop-dd.invariant.none k (omega (arith, less, few, all, last))))
