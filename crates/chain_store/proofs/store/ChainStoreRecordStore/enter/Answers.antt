use Rattle.std.proofs.Common.{◌≡◌, ◌≢◌, ℕ, ◌+◌, ◌-◌, ◌^◌, ◌/◌, ◌%◌, ◌<◌, ◌≤◌, ◌++◌, ◌∷◌, [], ◌∙◌, All, List, Option, Some, ap, arith, length, length-set, subst, sym}
use Rattle.std.specs.Prelude.{slice_index_or, slice_set}
use Rattle.std.proofs.lemmas.List.{get_or_read}
use Rattle.queue_core.specs.declared.queue.Queued.{Queued}
use Rattle.cb_queue.specs.RecordQueues.{IsQueued, RecordQueue}
use Rattle.chain_store.specs.declared.chains.Chain.{Chain}
use Rattle.chain_store.specs.declared.spots.Spot.{Spot}
use Rattle.chain_store.specs.Chains.{no_chain}
use Rattle.chain_store.specs.Chained.{AreChained, Tables, chain_in, chained_in, queue_in, tables_of}
use Rattle.chain_store.specs.Links.{Changes, link_at, record_of}
use Rattle.chain_store.specs.Spots.{AreNoted}
use Rattle.chain_store.specs.Values.{Linked}
use Rattle.chain_store.proofs.Entering.{chain_longer, chained_alone, chained_longer, few_before, last_there, links, queue_alone, queue_longer, waits_owned}
use Rattle.chain_store.proofs.Marked.{marked_entered}
use Rattle.chain_store.proofs.Ops.{few_wait, owned_place}
use Rattle.chain_store.proofs.Placed.{noted_alone, noted_longer}
use Rattle.chain_store.proofs.store.ChainStoreRecordStore.enter.Goals as goal

pub overflow_add-self : goal.overflow_add-self
overflow_add-self c =
    let few = few_wait (tables_of c.self.inside) c.self.invariant.tables in
    let is = c.self.invariant.tables.waiting in
    omega (arith, few, is)

pub overflow_add-self-2 : goal.overflow_add-self-2
overflow_add-self-2 c =
    let few = few_wait (tables_of c.self.inside) c.self.invariant.tables in
    let is = c.self.invariant.tables.waiting in
    omega (arith, few, is)

-- what is asked of the job, of the tables
module _ (t : Tables) (h : AreChained t) (v : Linked) (q : Queued) (queue : queue_in t ≡ v.queue) (own : IsQueued v.queue q) (later : All (λ x. x.job < q.job) v.queue.waiting)
    (place : ℕ) (within : place < 210) (ch : Chain) (read : ch ≡ slice_index_or t.chains place ch) where
  here : place < length t.chains
  here = let all = h.chains in omega (arith, within, all)

  is_read : ch ≡ chain_in t place
  is_read = get_or_read t.chains place ch here read no_chain

  own_in : IsQueued (queue_in t) q
  own_in = subst (λ x. IsQueued x q) (sym queue) own

  later_in : All (λ x. x.job < q.job) (queue_in t).waiting
  later_in = subst (λ (x : RecordQueue). All (λ y. y.job < q.job) x.waiting) (sym queue) later

  module _ (class : 65 + place / 14 ≡ q.class) (priority : 13 - place % 14 ≡ q.priority) where
    chained_first : ch.count ≡ 0 → AreChained (record t { chains = slice_set t.chains place (record { first = q.jct; last = q.jct; count = 1 }); waiting = t.waiting + 1 })
    chained_first none = chained_alone t h place here q class priority own_in later_in (ap (λ (x : Chain). x.count) (sym is_read) ∙ none)

    queue_first : ch.count ≡ 0 → queue_in (record t { chains = slice_set t.chains place (record { first = q.jct; last = q.jct; count = 1 }); waiting = t.waiting + 1 }) ≡
        record v.queue { waiting = v.queue.waiting ++ q ∷ [] }
    queue_first none =
        queue_alone t h place here q class priority own_in later_in (ap (λ (x : Chain). x.count) (sym is_read) ∙ none)
        ∙ ap (λ (x : RecordQueue). record x { waiting = x.waiting ++ q ∷ [] }) queue

    noted_first : (spots : List (Option Spot)) → AreNoted spots (chained_in t) → length t.owners ≤ length spots → ch.count ≡ 0 →
        AreNoted (slice_set spots (q.jct - 1) (Some (record { place = place; before = 0 })))
        (chained_in (record t { chains = slice_set t.chains place (record { first = q.jct; last = q.jct; count = 1 }); waiting = t.waiting + 1 }))
    noted_first spots noted size none =
        noted_alone t h spots noted place here q own_in later_in size (t.waiting + 1) (ap (λ (x : Chain). x.count) (sym is_read) ∙ none)

    some_in : ch.count ≢ 0 → (chain_in t place).count ≢ 0
    some_in some none = some (ap (λ (x : Chain). x.count) is_read ∙ none)

    last_in : ch.count ≢ 0 → (1 ≤ ch.last) × (ch.last ≤ length t.owners)
    last_in some =
        subst (λ (x : Chain). (1 ≤ x.last) × (x.last ≤ length t.owners)) (sym is_read) (last_there t h place here q class priority own_in later_in (some_in some))

    few_in : ch.count ≢ 0 → ch.count ≤ 2 ^ 16
    few_in some = subst (λ (x : Chain). x.count ≤ 2 ^ 16) (sym is_read) (few_before t h place here q class priority own_in later_in (some_in some))

    module _ (some : ch.count ≢ 0) (new : List (List ℕ)) (change : Changes t.layout t.records new (ch.last - 1) (record_of t.layout t.records (ch.last - 1)))
        (link : link_at t.layout new ch.last ≡ q.jct) where
      abbrev after : Chain → Tables
      after x = record t { records = new; chains = slice_set t.chains place (record { first = x.first; last = q.jct; count = x.count + 1 }); waiting = t.waiting + 1 }

      change_in : Changes t.layout t.records new ((chain_in t place).last - 1) (record_of t.layout t.records ((chain_in t place).last - 1))
      change_in = subst (λ (x : Chain). Changes t.layout t.records new (x.last - 1) (record_of t.layout t.records (x.last - 1))) is_read change

      link_in_it : link_at t.layout new (chain_in t place).last ≡ q.jct
      link_in_it = subst (λ (x : Chain). link_at t.layout new x.last ≡ q.jct) is_read link

      chained_more : AreChained (after ch)
      chained_more = subst (λ x. AreChained (after x)) (sym is_read) (chained_longer t h place here q class priority own_in later_in (some_in some) new change_in link_in_it)

      queue_more : queue_in (after ch) ≡ record v.queue { waiting = v.queue.waiting ++ q ∷ [] }
      queue_more =
          subst (λ x. queue_in (after x) ≡ record v.queue { waiting = v.queue.waiting ++ q ∷ [] }) (sym is_read)
          (queue_longer t h place here q class priority own_in later_in (some_in some) new change_in link_in_it
          ∙ ap (λ (x : RecordQueue). record x { waiting = x.waiting ++ q ∷ [] }) queue)

      noted_more : (spots : List (Option Spot)) → AreNoted spots (chained_in t) → length t.owners ≤ length spots →
          AreNoted (slice_set spots (q.jct - 1) (Some (record { place = place; before = ch.last }))) (chained_in (after ch))
      noted_more spots noted size =
          subst (λ x. AreNoted (slice_set spots (q.jct - 1) (Some (record { place = place; before = x.last }))) (chained_in (after x))) (sym is_read)
          (noted_longer t h spots noted place here q own_in later_in size (t.waiting + 1) new (some_in some)
          (links t h place here q class priority own_in later_in (some_in some) new change_in link_in_it)
          (chain_longer t h place here q class priority own_in later_in (some_in some) new change_in link_in_it))

pub index_mut-requires-2 : goal.index_mut-requires-2
index_mut-requires-2 c =
    let t = tables_of c.self.inside in
    let h = c.self.invariant.tables in
    let own = subst (λ (v : Linked). IsQueued v.queue c.args.queued) (sym c.self.view_is) c.requires.queued in
    let there = owned_place t h c.args.queued.jct (waits_owned t h c.args.queued own) in
    let has = c.self.invariant.spots in
    let whole = c.self.inside.spots.ok.0 in
    omega (arith, there.0, there.1, has, whole)

pub invariant_of-self : goal.invariant_of-self
invariant_of-self c = record {
  tables = chained_first (tables_of c.self.inside) c.self.invariant.tables c.args.self.now c.args.queued (ap (λ (v : Linked). v.queue) c.self.view_is) c.requires.queued c.requires.later
      c.place_of-place.result c.place_of-place.ensures.within c.index-chain.result.now c.index-chain.ensures c.place_of-place.ensures.class c.place_of-place.ensures.priority c.if-chain-eq0.true;
  spanned = c.self.invariant.spanned;
  noted = noted_first (tables_of c.self.inside) c.self.invariant.tables c.args.self.now c.args.queued (ap (λ (v : Linked). v.queue) c.self.view_is) c.requires.queued c.requires.later
      c.place_of-place.result c.place_of-place.ensures.within c.index-chain.result.now c.index-chain.ensures c.place_of-place.ensures.class c.place_of-place.ensures.priority
      c.self.inside.spots.items c.self.invariant.noted c.self.invariant.spots c.if-chain-eq0.true;
  spots = (let has = c.self.invariant.spots in let size = length-set c.self.inside.spots.items (c.args.queued.jct - 1) (Some (record { place = c.place_of-place.result; before = 0 })) in omega (arith, has, size));
  marked = marked_entered c.self.inside.occupied c.self.inside.chains.items c.place_of-place.result _ (let w = c.place_of-place.ensures.within in omega (arith, w)) c.self.invariant.marked;
}

pub returns-then-chain-eq0-clause-ok : goal.returns-then-chain-eq0-clause-ok
returns-then-chain-eq0-clause-ok c =
    queue_first (tables_of c.self.inside) c.self.invariant.tables c.args.self.now c.args.queued (ap (λ (v : Linked). v.queue) c.self.view_is) c.requires.queued c.requires.later
    c.place_of-place.result c.place_of-place.ensures.within c.index-chain.result.now c.index-chain.ensures c.place_of-place.ensures.class c.place_of-place.ensures.priority c.if-chain-eq0.true

pub relink-requires-clause-from_one : goal.relink-requires-clause-from_one
relink-requires-clause-from_one c =
    let there = last_in (tables_of c.self.inside) c.self.invariant.tables c.args.self.now c.args.queued (ap (λ (v : Linked). v.queue) c.self.view_is) c.requires.queued c.requires.later
    c.place_of-place.result c.place_of-place.ensures.within c.index-chain.result.now c.index-chain.ensures c.place_of-place.ensures.class c.place_of-place.ensures.priority
    c.if-chain-eq0.false in
    omega (arith, there.0)

pub relink-requires-clause-there : goal.relink-requires-clause-there
relink-requires-clause-there c =
    let there = last_in (tables_of c.self.inside) c.self.invariant.tables c.args.self.now c.args.queued (ap (λ (v : Linked). v.queue) c.self.view_is) c.requires.queued c.requires.later
    c.place_of-place.result c.place_of-place.ensures.within c.index-chain.result.now c.index-chain.ensures c.place_of-place.ensures.class c.place_of-place.ensures.priority
    c.if-chain-eq0.false in
    let room = c.self.invariant.tables.room in
    omega (arith, there.1, room)

pub relink-requires-clause-fits : goal.relink-requires-clause-fits
relink-requires-clause-fits c =
    let t = tables_of c.self.inside in
    let h = c.self.invariant.tables in
    let own = subst (λ (v : Linked). IsQueued v.queue c.args.queued) (sym c.self.view_is) c.requires.queued in
    let there = owned_place t h c.args.queued.jct (waits_owned t h c.args.queued own) in
    let most = h.most in
    let links = h.links in
    omega (arith, there.1, most, links)

pub overflow_add-chain : goal.overflow_add-chain
overflow_add-chain c =
    let few = few_in (tables_of c.self.inside) c.self.invariant.tables c.args.self.now c.args.queued (ap (λ (v : Linked). v.queue) c.self.view_is) c.requires.queued c.requires.later
    c.place_of-place.result c.place_of-place.ensures.within c.index-chain.result.now c.index-chain.ensures c.place_of-place.ensures.class c.place_of-place.ensures.priority
    c.if-chain-eq0.false in
    omega (arith, few)

pub invariant_of-self-2 : goal.invariant_of-self-2
invariant_of-self-2 c = record {
  tables = chained_more (tables_of c.self.inside) c.self.invariant.tables c.args.self.now c.args.queued (ap (λ (v : Linked). v.queue) c.self.view_is) c.requires.queued c.requires.later
      c.place_of-place.result c.place_of-place.ensures.within c.index-chain.result.now c.index-chain.ensures c.place_of-place.ensures.class c.place_of-place.ensures.priority
      c.if-chain-eq0.false c.relink.new.records.items c.relink.ensures.change c.relink.ensures.link;
  spanned = c.self.invariant.spanned;
  noted = noted_more (tables_of c.self.inside) c.self.invariant.tables c.args.self.now c.args.queued (ap (λ (v : Linked). v.queue) c.self.view_is) c.requires.queued c.requires.later
      c.place_of-place.result c.place_of-place.ensures.within c.index-chain.result.now c.index-chain.ensures c.place_of-place.ensures.class c.place_of-place.ensures.priority
      c.if-chain-eq0.false c.relink.new.records.items c.relink.ensures.change c.relink.ensures.link c.self.inside.spots.items c.self.invariant.noted c.self.invariant.spots;
  spots = (let has = c.self.invariant.spots in let size = length-set c.self.inside.spots.items (c.args.queued.jct - 1) (Some (record { place = c.place_of-place.result; before = c.index-chain.result.now.last })) in omega (arith, has, size));
  marked = marked_entered c.self.inside.occupied c.self.inside.chains.items c.place_of-place.result _ (let w = c.place_of-place.ensures.within in omega (arith, w)) c.self.invariant.marked;
}

pub returns-clause-ok : goal.returns-clause-ok
returns-clause-ok c =
    queue_more (tables_of c.self.inside) c.self.invariant.tables c.args.self.now c.args.queued (ap (λ (v : Linked). v.queue) c.self.view_is) c.requires.queued c.requires.later
    c.place_of-place.result c.place_of-place.ensures.within c.index-chain.result.now c.index-chain.ensures c.place_of-place.ensures.class c.place_of-place.ensures.priority
    c.if-chain-eq0.false c.relink.new.records.items c.relink.ensures.change c.relink.ensures.link
