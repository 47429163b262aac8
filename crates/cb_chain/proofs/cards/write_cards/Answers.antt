use Rattle.std.proofs.Common.{◌≡◌, ℕ, ◌+◌, ◌-◌, ◌≤◌, List, ◌++◌, length, take, drop, min, suc, arith, ap, ◌∙◌, sym, refl, length-append, length-drop}
use Rattle.std.proofs.lemmas.List.{take-append-drop}
use Rattle.cb_chain.specs.Taking.{CardsFrom, cards_needed}
use Rattle.std.proofs.lemmas.List.Elements.{All-nil}
use Rattle.cb_chain.specs.Written.{IsFresh}
use Rattle.cb_chain.proofs.SoFar.{begins, ends, goes_on, ready_now, room_now, some_more}
use Rattle.cb_chain.proofs.cards.write_cards.Goals as goal

pub loop-rest-init : goal.loop-rest-init
loop-rest-init g c = record {
  so =
      begins c.args.job cards_needed (CardsFrom c.args.layout.now c.args.job) c.args.cards.now (g.S.RecordStore.queue c.args.store.now) c.take_if-first.result
      (g.S.RecordStore.queue c.take_if-first.new.store) c.is_more.result c.is_more.ensures c.take_if-first.ensures.value;
  room = c.take_if-first.ensures.room;
}

pub write_pair-here-requires-clause-ready : goal.write_pair-here-requires-clause-ready
write_pair-here-requires-clause-ready g c =
    ready_now c.args.job cards_needed (CardsFrom c.args.layout.now c.args.job) c.args.cards.now c.loop-rest.rest.now (g.S.RecordStore.queue c.args.store.now)
    (g.S.RecordStore.queue c.loop-rest.store) c.take_if-first.result c.loop-rest.here c.loop-rest.invariant.so c.requires.ready

-- two cards fewer are left, or none
needed_by : (cards : List (List ℕ)) (k : ℕ) (behind : List (List ℕ)) → k ≡ min (length cards) 2 → behind ≡ drop k cards → 1 ≤ length cards →
    cards_needed cards ≡ suc (0 + cards_needed behind)
needed_by cards k behind is tail some = let size = ap length tail in let left = length-drop k cards in omega (arith, size, left, is, some)

parted : (k : ℕ) (cards front behind : List (List ℕ)) → front ≡ take k cards → behind ≡ drop k cards → cards ≡ front ++ behind
parted k cards front behind first last =
    sym (take-append-drop k cards) ∙ ap (λ xs. xs ++ drop k cards) (sym first) ∙ ap (λ ys. front ++ ys) (sym last)

-- where more cards follow there are two
full_by : (cards front behind : List (List ℕ)) (k : ℕ) → k ≡ min (length cards) 2 → cards ≡ front ++ behind → behind ≡ drop k cards → 1 ≤ length behind →
    length front ≡ 2
full_by cards front behind k is both tail some =
    let all : length cards ≡ length front + length behind = ap length both ∙ length-append front behind in
    let left : length behind ≡ length cards - k = ap length tail ∙ length-drop k cards in
    omega (arith, all, left, is, some)

pub write_pair-here-requires-clause-full : goal.write_pair-here-requires-clause-full
write_pair-here-requires-clause-full g c = λ more.
    let rest = c.loop-rest.rest.now in
    full_by rest c.split_at.result.0.now c.split_at.result.1.now c.min.result c.min.ensures
    (parted c.min.result rest c.split_at.result.0.now c.split_at.result.1.now c.split_at.ensures.front c.split_at.ensures.back) c.split_at.ensures.back
    (some_more c.split_at.result.1.now (sym c.is_more-in-loop-rest-2.ensures ∙ more))

pub write_pair-here-requires-clause-room : goal.write_pair-here-requires-clause-room
write_pair-here-requires-clause-room g c = λ more.
    let some = sym c.is_more-in-loop-rest.ensures ∙ c.loop-rest-test.true in
    let room = room_now c.args.job cards_needed (CardsFrom c.args.layout.now c.args.job) c.args.cards.now c.loop-rest.rest.now
    (g.S.RecordStore.queue c.args.store.now)
    (g.S.RecordStore.queue c.loop-rest.store) c.take_if-first.result c.loop-rest.here c.loop-rest.invariant.so some (g.S.RecordStore.lacking c.args.store.now) c.requires.room in
    let needed = needed_by c.loop-rest.rest.now c.min.result c.split_at.result.1.now c.min.ensures c.split_at.ensures.back
    (some_more c.loop-rest.rest.now some) in
    let behind = some_more c.split_at.result.1.now (sym c.is_more-in-loop-rest-2.ensures ∙ more) in
    let same = c.loop-rest.invariant.room in omega (arith, room, needed, behind, same)

pub loop-rest-preserved : goal.loop-rest-preserved
loop-rest-preserved g c =
    let some = sym c.is_more-in-loop-rest.ensures ∙ c.loop-rest-test.true in
    let rest = c.loop-rest.rest.now in
    let both = parted c.min.result rest c.split_at.result.0.now c.split_at.result.1.now c.split_at.ensures.front c.split_at.ensures.back in
    record {
      so =
          goes_on c.args.job cards_needed (CardsFrom c.args.layout.now c.args.job) c.args.cards.now (g.S.RecordStore.queue c.args.store.now)
          c.take_if-first.result rest c.split_at.result.1.now c.split_at.result.0.now (g.S.RecordStore.queue c.loop-rest.store)
          (g.S.RecordStore.queue c.write_pair-here.new.store) c.loop-rest.here c.write_pair-here.result 0 c.is_more-in-loop-rest-2.result
          c.is_more-in-loop-rest-2.ensures c.requires.ready some both
          (needed_by rest c.min.result c.split_at.result.1.now c.min.ensures c.split_at.ensures.back (some_more rest some)) c.loop-rest.invariant.so
          c.write_pair-here.ensures.value;
      room = c.write_pair-here.ensures.room ∙ c.loop-rest.invariant.room;
    }

pub returns-clause-value : goal.returns-clause-value
returns-clause-value g c =
    ends c.args.job cards_needed (CardsFrom c.args.layout.now c.args.job) c.args.cards.now (g.S.RecordStore.queue c.args.store.now) c.take_if-first.result
    (g.S.RecordStore.queue c.loop-rest.store) c.loop-rest.here c.loop-rest.rest.now (sym c.is_more-in-loop-rest.ensures ∙ c.loop-rest-test.false) refl
    c.take_if-first.ensures.value.most
    (λ later. ((refl, refl), All-nil (λ n. IsFresh c.args.layout.now (later.at n)))) c.loop-rest.invariant.so
