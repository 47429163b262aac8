use Rattle.std.proofs.Common.{◌≡◌, ◌<◌, ◌∙◌, ap, arith, length, refl, suc}
use Rattle.job_text.specs.Places.{card_at}
use Rattle.job_records.specs.Fields.{CardsFields, fields_of_cards}
use Rattle.job_records.specs.Recorded.{along, next_cards}
use Rattle.job_records.specs.Said.{cards_said}
use Rattle.job_records.proofs.Counted.{first_card, front_more, has_rest, here, kind_here, rest_card, some_here}
use Rattle.job_records.proofs.cards.find_card.Goals as goal

pub loop-left-init : goal.loop-left-init
loop-left-init g c = record {
  there = c.requires.there;
  is = refl;
  within = omega arith;
  passed = record { links = 0; is = refl; cards_so = omega arith };
}

pub cards_of-view-requires-clause-kind : goal.cards_of-view-requires-clause-kind
cards_of-view-requires-clause-kind g c =
    let q = g.S.RecordStore.queue c.args.store.now in
    kind_here q c.loop-left.n c.loop-left.left c.loop-left.invariant.there

pub returns-then-left-here : goal.returns-then-left-here
returns-then-left-here g c =
    let q = g.S.RecordStore.queue c.args.store.now in
    let n = c.loop-left.n in
    let inv = c.loop-left.invariant in
    let same = (λ i. fields_of_cards (c.cards_of-view.ensures.layout i) c.cards_of-view.result.bytes.now) ∙ c.cards_of-view.ensures.fields in
    let size : c.count-here.result ≡ length (here q n) = c.count-here.ensures ∙ ap (λ f. length (cards_said f)) same in
    let less = c.if-left-here.true in
    let inside : c.loop-left.left < length (here q n) = omega (arith, less, size) in
    record {
      kind = kind_here q n c.loop-left.left inv.there;
      there = inside;
      is = inv.is ∙ first_card q n c.loop-left.left inv.there inside;
      within = inv.within;
      passed = inv.passed;
    }

pub loop-left-preserved : goal.loop-left-preserved
loop-left-preserved g c =
    let q = g.S.RecordStore.queue c.args.store.now in
    let n = c.loop-left.n in
    let left = c.loop-left.left in
    let inv = c.loop-left.invariant in
    let same = (λ i. fields_of_cards (c.cards_of-view.ensures.layout i) c.cards_of-view.result.bytes.now) ∙ c.cards_of-view.ensures.fields in
    let size : c.count-here.result ≡ length (here q n) = c.count-here.ensures ∙ ap (λ f. length (cards_said f)) same in
    let on : c.next-n.result ≡ next_cards q n = c.next-n.ensures ∙ ap (λ (f : CardsFields). f.next) same in
    let past = c.if-left-here.false in
    let within = inv.within in
    let before = inv.passed.cards_so in
    let more = front_more q c.args.first inv.passed.links in
    let own : length (here q n) ≡ length (here q (along (next_cards q) c.args.first inv.passed.links)) = ap (λ m. length (here q m)) inv.passed.is in
    record {
      there = has_rest q n left inv.there c.next-n.result on c.count-here.result size past;
      is = inv.is ∙ rest_card q n left inv.there c.next-n.result on c.count-here.result size past;
      within = omega (arith, within);
      passed = record {
        links = suc inv.passed.links;
        is = on ∙ ap (next_cards q) inv.passed.is;
        cards_so = omega (arith, before, more, own, size, past, within);
      };
    }

pub returns : goal.returns
returns g c =
    let q = g.S.RecordStore.queue c.args.store.now in
    let n = c.loop-left.n in
    let inv = c.loop-left.invariant in
    let last = c.loop-left-test.false in
    let none : c.loop-left.left ≡ 0 = omega (arith, last) in
    let some = some_here q n in
    let inside : c.loop-left.left < length (here q n) = omega (arith, some, none) in
    record {
      kind = kind_here q n c.loop-left.left inv.there;
      there = some;
      is = inv.is ∙ first_card q n c.loop-left.left inv.there inside ∙ ap (card_at (here q n)) none;
      within = omega arith;
      passed = record { links = inv.passed.links; is = inv.passed.is; cards_so = (let before = inv.passed.cards_so in omega (arith, before, none)) };
    }
