use Rattle.std.proofs.Common.{◌≤◌, arith, ap, ◌∙◌, subst, sym}
use Rattle.cb_meaning.specs.Spelled.{siot}
use Rattle.cb_chain.proofs.Chains.{dd_link}
use Rattle.cb_chain.proofs.Linked.{its_owner, stepped, used}
use Rattle.cb_chain.proofs.Stored.{ready_after}
use Rattle.std.proofs.Common.{◌<◌, ◌^◌, length}
use Rattle.cb_meaning.specs.Spelled.{cards_of}
use Rattle.cb_chain.proofs.CardsFit.{cards_fit}
use Rattle.cb_chain.proofs.dds.write_dd.Goals as goal

pub take_if-next-requires-clause-ready : goal.take_if-next-requires-clause-ready
take_if-next-requires-clause-ready g c =
    ready_after c.write_below-below.ensures.value.numbers (g.S.RecordStore.queue c.args.store.now) (g.S.RecordStore.queue c.write_below-below.new.store)
    c.requires.ready
    c.write_below-below.ensures.value.took

pub siot_record-requires-clause-cards : goal.siot_record-requires-clause-cards
siot_record-requires-clause-cards g c =
    subst (λ l. length (cards_of c.args.dd.now.kind) < 256 ^ l.cards.width) (sym c.requires.layout)
    (cards_fit c.args.dd.now.kind (g.S.RecordStore.queue c.args.store.now) c.requires.ready (let room = c.requires.room in omega (arith, room)))

pub put-requires-clause-used : goal.put-requires-clause-used
put-requires-clause-used g c =
    used c.args.job c.args.here (g.S.RecordStore.queue c.args.store.now) (g.S.RecordStore.queue c.write_below-below.new.store)
    (g.S.RecordStore.queue c.take_if-next.new.store) c.write_below-below.ensures.value.numbers c.args.more c.take_if-next.result c.siot_record.result
    c.requires.ready c.requires.taken
    c.write_below-below.ensures.value.took c.take_if-next.ensures.value

pub put-requires-clause-owner : goal.put-requires-clause-owner
put-requires-clause-owner g c =
    c.siot_record.ensures.head.of_job
    ∙ sym (its_owner c.args.job c.args.here (g.S.RecordStore.queue c.args.store.now) (g.S.RecordStore.queue c.write_below-below.new.store)
    (g.S.RecordStore.queue c.take_if-next.new.store) c.write_below-below.ensures.value.numbers c.args.more c.take_if-next.result c.siot_record.result
    c.requires.ready c.requires.taken
    c.write_below-below.ensures.value.took c.take_if-next.ensures.value)

pub returns-clause-value : goal.returns-clause-value
returns-clause-value g c =
    let l = c.args.layout.now in
    let job = c.args.job in
    let here = c.args.here in
    let old = g.S.RecordStore.queue c.args.store.now in
    let under = c.write_below-below.ensures.value in
    let taken = c.requires.taken in
    let next = c.take_if-next.result in
    let r = c.siot_record.result in
    let step = stepped l job siot here old (g.S.RecordStore.queue c.write_below-below.new.store) (g.S.RecordStore.queue c.take_if-next.new.store)
    (g.S.RecordStore.queue c.put.new.self) under.numbers c.args.more next r c.requires.ready taken under.took c.take_if-next.ensures.value c.requires.layout
    c.siot_record.ensures.head c.put.ensures.value in
    let within : here ≤ l.most_records = subst (λ m. here ≤ m) (sym (ap (λ k. k.most_records) c.requires.layout)) taken.within in
    record {
      below = under.numbers;
      count_is = under.count_is;
      filled = step.filled;
      is_held = step.is_held;
      link = λ later behind rest kept chain.
          dd_link l later job here r (step.here_is later kept) taken.from_one within (step.here_used later kept) c.write_below-below.result next
          under.numbers behind
          c.args.dd.now rest c.siot_record.ensures (under.spells later (step.below_kept later kept)) chain;
    }
