use Rattle.std.proofs.Common.{◌++◌, ◌∙◌, ap, List, subst, sym, ℕ}
use Rattle.cb_meaning.specs.Fields.{byte_at, number_at}
use Rattle.cb_meaning.specs.Readings.{cards_of_record, cards_read}
use Rattle.cb_meaning.specs.Spelled.{card_record}
use Rattle.cb_queue.specs.RecordQueues.{RecordQueue, shown}
use Rattle.cb_records.specs.Writes.{FitsRecord}
use Rattle.cb_read.specs.Chains.{cards_from}
use Rattle.cb_read.specs.Kinds.{IsOfKind}
use Rattle.cb_read.proofs.Chained.{all_read, cards_chain, more_read, none_follows}
use Rattle.cb_read.proofs.OfKind.{first_along, rest_along}
use Rattle.cb_read.proofs.cards.cards_read.Goals as goal

abbrev here : RecordQueue → ℕ → List (List ℕ)
here q n = cards_of_record ((shown q).at n)

abbrev next : RecordQueue → ℕ → ℕ
next q n = number_at ((shown q).at n) q.layout.next_cards

pub returns-then-n-eq0 : goal.returns-then-n-eq0
returns-then-n-eq0 g c =
    let q = g.S.RecordStore.queue c.args.store.now in
    none_follows (cards_read q.layout (shown q)) (here q) (next q) (cards_chain q.layout (shown q)) (cards_from q c.args.first) c.loop-left.cards c.loop-left.left c.loop-left.n
    c.loop-left.invariant.whole c.loop-left-test.true c.if-n-eq0.true

pub invariant_of-view : goal.invariant_of-view
invariant_of-view g c =
    let q = g.S.RecordStore.queue c.args.store.now in
    record {
      of_kind = ap (λ r. byte_at r 0) c.bring.ensures
          ∙ (first_along (next q) (IsOfKind q card_record) c.loop-left.left c.loop-left.n c.loop-left-test.true c.if-n-eq0.false c.loop-left.invariant.kinds);
      fits = subst FitsRecord (sym c.layout-layout.ensures.value) c.layout-layout.ensures.sound.own_link.fits;
    }

pub loop-left-preserved : goal.loop-left-preserved
loop-left-preserved g c =
    let q = g.S.RecordStore.queue c.args.store.now in
    let on = c.next-n.ensures ∙ (λ i. number_at (c.bring.ensures i) ((c.layout-layout.ensures.value i).next_cards)) in
    record {
      kinds = rest_along (next q) (IsOfKind q card_record) c.loop-left.left c.loop-left.n c.loop-left-test.true c.if-n-eq0.false c.loop-left.invariant.kinds c.next-n.result on;
      whole = more_read (cards_read q.layout (shown q)) (here q) (next q) (cards_chain q.layout (shown q)) (cards_from q c.args.first) c.loop-left.cards c.loop-left.left c.loop-left.n
          c.loop-left.invariant.whole c.add_cards.new.cards c.next-n.result c.loop-left-test.true c.if-n-eq0.false
          (c.in_ok-add_cards.ensures ∙ ap (λ r. c.loop-left.cards ++ cards_of_record r) c.bring.ensures) on;
    }

pub returns : goal.returns
returns g c =
    let q = g.S.RecordStore.queue c.args.store.now in
    all_read (cards_read q.layout (shown q)) (here q) (next q) (cards_chain q.layout (shown q)) (cards_from q c.args.first) c.loop-left.cards c.loop-left.left c.loop-left.n
    c.loop-left.invariant.whole c.loop-left-test.false
