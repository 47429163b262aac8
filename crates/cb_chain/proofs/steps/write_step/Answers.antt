use Rattle.std.proofs.Common.{◌≤◌, ap, ◌∙◌, subst, sym}
use Rattle.cb_meaning.specs.Spelled.{sct}
use Rattle.std.proofs.Common.{List}
use Rattle.jcl_plan.specs.declared.plan.DdPlan.{DdPlan}
use Rattle.cb_chain.specs.Taking.{Writes, dds_needed, OfDds}
use Rattle.cb_chain.proofs.Chains.{step_link}
use Rattle.cb_chain.proofs.Linked.{its_owner, stepped, used}
use Rattle.cb_chain.proofs.Stored.{ready_after}
use Rattle.cb_chain.proofs.steps.write_step.Goals as goal

pub take_if-next-requires-clause-ready : goal.take_if-next-requires-clause-ready
take_if-next-requires-clause-ready g c =
    ready_after c.write_dds-first_dd.ensures.value.numbers (g.S.RecordStore.queue c.args.store.now) (g.S.RecordStore.queue c.write_dds-first_dd.new.store)
    c.requires.ready
    c.write_dds-first_dd.ensures.value.took

pub put-requires-clause-used : goal.put-requires-clause-used
put-requires-clause-used g c =
    used c.args.job c.args.here (g.S.RecordStore.queue c.args.store.now) (g.S.RecordStore.queue c.write_dds-first_dd.new.store)
    (g.S.RecordStore.queue c.take_if-next.new.store) c.write_dds-first_dd.ensures.value.numbers c.args.more c.take_if-next.result c.sct_record.result
    c.requires.ready c.requires.taken
    c.write_dds-first_dd.ensures.value.took c.take_if-next.ensures.value

pub put-requires-clause-owner : goal.put-requires-clause-owner
put-requires-clause-owner g c =
    c.sct_record.ensures.head.of_job
    ∙ sym (its_owner c.args.job c.args.here (g.S.RecordStore.queue c.args.store.now) (g.S.RecordStore.queue c.write_dds-first_dd.new.store)
    (g.S.RecordStore.queue c.take_if-next.new.store) c.write_dds-first_dd.ensures.value.numbers c.args.more c.take_if-next.result c.sct_record.result
    c.requires.ready c.requires.taken
    c.write_dds-first_dd.ensures.value.took c.take_if-next.ensures.value)

pub returns-clause-value : goal.returns-clause-value
returns-clause-value g c =
    let l = c.args.layout.now in
    let job = c.args.job in
    let here = c.args.here in
    let old = g.S.RecordStore.queue c.args.store.now in
    let dds_is = c.as_slice.ensures in
    let under : Writes (dds_needed c.args.step.now.dds) (OfDds l job c.args.step.now.dds) old (g.S.RecordStore.queue c.write_dds-first_dd.new.store)
    c.write_dds-first_dd.result = subst (λ (dds : List DdPlan). Writes (dds_needed dds) (OfDds l job dds) old
    (g.S.RecordStore.queue c.write_dds-first_dd.new.store) c.write_dds-first_dd.result) dds_is c.write_dds-first_dd.ensures.value in
    let taken = c.requires.taken in
    let next = c.take_if-next.result in
    let r = c.sct_record.result in
    let step = stepped l job sct here old (g.S.RecordStore.queue c.write_dds-first_dd.new.store) (g.S.RecordStore.queue c.take_if-next.new.store)
    (g.S.RecordStore.queue c.put.new.self) under.numbers c.args.more next r c.requires.ready taken under.took c.take_if-next.ensures.value c.requires.layout
    c.sct_record.ensures.head c.put.ensures.value in
    let within : here ≤ l.most_records = subst (λ m. here ≤ m) (sym (ap (λ k. k.most_records) c.requires.layout)) taken.within in
    record {
      below = under.numbers;
      count_is = under.count_is;
      filled = step.filled;
      is_held = step.is_held;
      link = λ later behind rest kept chain.
          step_link l later job here r (step.here_is later kept) taken.from_one within (step.here_used later kept) c.write_dds-first_dd.result next
          under.numbers behind
          c.args.step.now rest c.sct_record.ensures (under.spells later (step.below_kept later kept)) chain;
    }
