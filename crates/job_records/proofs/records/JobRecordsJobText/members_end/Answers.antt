use Rattle.std.proofs.Common.{◌≡◌, ◌+◌, ◌-◌, ◌<◌, ◌++◌, ◌∙◌, ap, arith, drop, length, subst, suc, sym, take}
use Rattle.std.proofs.lemmas.List.{append-nil, drop_all}
use Rattle.jcl_meaning.specs.Programs.{continuing, is_continued}
use Rattle.jcl_plan.specs.declared.plan.DdPlan.{DdPlan}
use Rattle.cb_meaning.specs.Readings.{name_read}
use Rattle.cb_meaning.specs.Spelled.{siot}
use Rattle.cb_queue.specs.RecordQueues.{shown}
use Rattle.cb_read.specs.Chains.{plan_of}
use Rattle.cb_read.specs.Kinds.{IsOfKind}
use Rattle.job_text.specs.Places.{dd_at, step_at}
use Rattle.job_text.proofs.Members.{members_first, members_none, members_on}
use Rattle.job_records.specs.Fields.{SiotFields, fields_of_siot}
use Rattle.job_records.specs.Recorded.{next_dd, siot_at}
use Rattle.job_records.proofs.There.{dd_there}
use Rattle.job_records.proofs.records.JobRecordsJobText.members_end.Goals as goal

pub loop-end-init : goal.loop-end-init
loop-end-init g c =
    let q = g.S.RecordStore.queue c.args.self.now.store.now in
    let dds = (step_at (plan_of q c.args.self.now.jct).steps c.args.step).dds in
    let same = (λ i. fields_of_siot (c.siot.ensures.layout i) c.siot.result.bytes.now) ∙ c.siot.ensures.fields in
    let more : suc c.args.dd ≡ c.args.dd + 1 = omega arith in
    let there = c.requires.dd in
    record {
      after = omega arith;
      few = omega (arith, there);
      all = c.dd_count-count.ensures;
      n = c.next-n.ensures ∙ ap (λ (f : SiotFields). f.next) same ∙ ap (siot_at q c.args.self.now.jct c.args.step) more;
      members = members_first dds c.args.dd c.requires.dd;
    }

pub siot_of-siot-requires-clause-kind : goal.siot_of-siot-requires-clause-kind
siot_of-siot-requires-clause-kind g c =
    let q = g.S.RecordStore.queue c.args.self.now.store.now in
    let dds = (step_at (plan_of q c.args.self.now.jct).steps c.args.step).dds in
    let inside = c.loop-end-test.true in
    let all = c.loop-end.invariant.all in
    let less : c.loop-end.end < length dds = omega (arith, inside, all) in
    let there = dd_there q c.args.self.now.jct c.requires.reads.recorded c.args.step c.requires.step c.loop-end.end less in
    subst (IsOfKind q siot) (sym c.loop-end.invariant.n) there.kind

pub returns-then-not-continues-clause-members : goal.returns-then-not-continues-clause-members
returns-then-not-continues-clause-members g c =
    let q = g.S.RecordStore.queue c.args.self.now.store.now in
    let dds = (step_at (plan_of q c.args.self.now.jct).steps c.args.step).dds in
    let inside = c.loop-end-test.true in
    let all = c.loop-end.invariant.all in
    let less : c.loop-end.end < length dds = omega (arith, inside, all) in
    let there = dd_there q c.args.self.now.jct c.requires.reads.recorded c.args.step c.requires.step c.loop-end.end less in
    let same = (λ i. fields_of_siot (c.siot_of-siot.ensures.layout i) c.siot_of-siot.result.bytes.now) ∙ c.siot_of-siot.ensures.fields in
    let told : c.continues.result ≡ is_continued (dd_at dds c.loop-end.end).name =
    c.continues.ensures ∙ ap (λ (f : SiotFields). is_continued (name_read f.name)) (same ∙ ap (λ m. fields_of_siot q.layout ((shown q).at m)) c.loop-end.invariant.n)
    ∙ sym (ap (λ (d : DdPlan). is_continued d.name) there.is) in
    let so_far = take (c.loop-end.end - c.args.dd) (drop c.args.dd dds) in
    sym (c.loop-end.invariant.members ∙ ap (λ xs. so_far ++ xs) (members_none dds c.loop-end.end less (sym told ∙ c.if-not-continues.true)) ∙ append-nil so_far)

pub loop-end-preserved : goal.loop-end-preserved
loop-end-preserved g c =
    let q = g.S.RecordStore.queue c.args.self.now.store.now in
    let dds = (step_at (plan_of q c.args.self.now.jct).steps c.args.step).dds in
    let inside = c.loop-end-test.true in
    let all = c.loop-end.invariant.all in
    let less : c.loop-end.end < length dds = omega (arith, inside, all) in
    let there = dd_there q c.args.self.now.jct c.requires.reads.recorded c.args.step c.requires.step c.loop-end.end less in
    let same = (λ i. fields_of_siot (c.siot_of-siot.ensures.layout i) c.siot_of-siot.result.bytes.now) ∙ c.siot_of-siot.ensures.fields in
    let told : c.continues.result ≡ is_continued (dd_at dds c.loop-end.end).name =
    c.continues.ensures ∙ ap (λ (f : SiotFields). is_continued (name_read f.name)) (same ∙ ap (λ m. fields_of_siot q.layout ((shown q).at m)) c.loop-end.invariant.n)
    ∙ sym (ap (λ (d : DdPlan). is_continued d.name) there.is) in
    let more : suc c.loop-end.end ≡ c.loop-end.end + 1 = omega arith in
    let after = c.loop-end.invariant.after in
    record {
      after = omega (arith, after);
      few = omega (arith, less);
      all = all;
      n = c.next-n-in-loop-end.ensures ∙ ap (λ (f : SiotFields). f.next) same ∙ ap (next_dd q) c.loop-end.invariant.n
          ∙ ap (siot_at q c.args.self.now.jct c.args.step) more;
      members = c.loop-end.invariant.members ∙ members_on dds c.args.dd c.loop-end.end after less (sym told ∙ c.if-not-continues.false);
    }

pub returns-clause-members : goal.returns-clause-members
returns-clause-members g c =
    let q = g.S.RecordStore.queue c.args.self.now.store.now in
    let dds = (step_at (plan_of q c.args.self.now.jct).steps c.args.step).dds in
    let so_far = take (c.loop-end.end - c.args.dd) (drop c.args.dd dds) in
    let few = c.loop-end.invariant.few in
    let all = c.loop-end.invariant.all in
    let last = c.loop-end-test.false in
    sym (c.loop-end.invariant.members ∙ ap (λ xs. so_far ++ continuing xs) (drop_all c.loop-end.end dds (omega (arith, few, all, last))) ∙ append-nil so_far)
