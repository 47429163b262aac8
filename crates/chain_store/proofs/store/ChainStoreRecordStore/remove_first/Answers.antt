use Rattle.std.proofs.Common.{◌≡◌, ℕ, suc, ◌+◌, ◌-◌, ◌/◌, ◌%◌, ◌<◌, [], ◌∙◌, List, Option, ap, arith, length, refl, subst, sym}
use Rattle.std.specs.Prelude.{filter, slice_index_or}
use Rattle.std.proofs.lemmas.List.{get_or_read}
use Rattle.std.proofs.lemmas.List.Elements.{All-contains}
use Rattle.cb_meaning.specs.Fields.{number_at}
use Rattle.queue_core.specs.declared.queue.Queued.{Queued}
use Rattle.queue_core.specs.Queues.{IsFirstOf}
use Rattle.cb_queue.specs.RecordQueues.{IsQueued}
use Rattle.chain_store.specs.declared.chains.Chain.{Chain}
use Rattle.chain_store.specs.declared.spots.Found.{Found}
use Rattle.chain_store.specs.declared.spots.Spot.{Spot}
use Rattle.chain_store.specs.Chains.{is_other, no_chain}
use Rattle.chain_store.specs.Chained.{AreChained, Tables, chain_in, chained_in, link_in, queue_in, tables_of}
use Rattle.chain_store.specs.Links.{owned_by}
use Rattle.chain_store.specs.Spots.{AreNoted, IsFound, spot_of}
use Rattle.chain_store.specs.Values.{Linked}
use Rattle.chain_store.proofs.Cancelling.{IsLeft, chained_after, fewer, leave_size, next_read, noted_after, queue_after, some_read, there}
use Rattle.chain_store.proofs.Marked.{marked_left}
use Rattle.chain_store.proofs.Noted.{stand_walk}
use Rattle.chain_store.proofs.Selecting.{leads}
use Rattle.chain_store.proofs.store.ChainStoreRecordStore.remove_first.Goals as goal

pub place_of-place-requires-clause-class : goal.place_of-place-requires-clause-class
place_of-place-requires-clause-class c =
    let q = c.args.self.now.queue in
    (All-contains (IsQueued q) q.waiting c.args.queued c.layout-layout.ensures.sound.queued c.requires.contained).class

pub place_of-place-requires-clause-priority : goal.place_of-place-requires-clause-priority
place_of-place-requires-clause-priority c =
    let q = c.args.self.now.queue in
    (All-contains (IsQueued q) q.waiting c.args.queued c.layout-layout.ensures.sound.queued c.requires.contained).priority

-- the first record of its chain is the job's
module _ (t : Tables) (h : AreChained t) (spots : List (Option Spot)) (noted : AreNoted spots (chained_in t)) (q : Queued) (place : ℕ) (small : place < 210) (class : 65 + place / 14 ≡ q.class)
    (priority : 13 - place % 14 ≡ q.priority) (first : IsFirstOf (queue_in t).waiting q.class q) (ch : Chain) (read : ch ≡ slice_index_or t.chains place ch) where
  here : place < length t.chains
  here = let all = h.chains in omega (arith, small, all)

  is_read : ch ≡ chain_in t place
  is_read = get_or_read t.chains place ch here read no_chain

  abbrev head : Found
  head = record { n = ch.first; spot = record { place = place; before = 0 } }

  is_found : IsFound t.owners spots q.job head
  is_found =
      let it = leads t h q place here class priority first in
      let number : ch.first ≡ (chain_in t place).first = ap (λ (x : Chain). x.first) is_read in
      record {
        of_job = ap (owned_by t.owners) number ∙ it.1;
        spot = ap (spot_of spots) number ∙ stand_walk spots (link_in t) place 0 (chain_in t place).first (chain_in t place).count 0 (let some = it.0 in omega (arith, some)) (noted.each place);
      }

pub overflow_sub-chain : goal.overflow_sub-chain
overflow_sub-chain c =
    let t = tables_of c.self.inside in
    let h = c.self.invariant.tables in
    let spots = c.self.inside.spots.items in
    let place = c.place_of-place.result in
    let ch = c.index-chain.result.now in
    let first = subst (λ (v : Linked). IsFirstOf v.queue.waiting c.args.queued.class c.args.queued) (sym c.self.view_is) c.requires in
    let is = is_found t h spots c.self.invariant.noted c.args.queued place c.place_of-place.ensures.within c.place_of-place.ensures.class c.place_of-place.ensures.priority first ch c.index-chain.ensures in
    (there t h spots c.self.invariant.noted c.args.queued.job (record { n = ch.first; spot = record { place = place; before = 0 } }) is).0

pub index-requires : goal.index-requires
index-requires c =
    let t = tables_of c.self.inside in
    let h = c.self.invariant.tables in
    let spots = c.self.inside.spots.items in
    let place = c.place_of-place.result in
    let ch = c.index-chain.result.now in
    let first = subst (λ (v : Linked). IsFirstOf v.queue.waiting c.args.queued.class c.args.queued) (sym c.self.view_is) c.requires in
    let is = is_found t h spots c.self.invariant.noted c.args.queued place c.place_of-place.ensures.within c.place_of-place.ensures.class c.place_of-place.ensures.priority first ch c.index-chain.ensures in
    let at = there t h spots c.self.invariant.noted c.args.queued.job (record { n = ch.first; spot = record { place = place; before = 0 } }) is in
    let room = h.room in
    let whole = c.self.inside.records.ok.0 in
    omega (arith, at.0, at.1, room, whole)

pub without-requires : goal.without-requires
without-requires c =
    let t = tables_of c.self.inside in
    let h = c.self.invariant.tables in
    let spots = c.self.inside.spots.items in
    let place = c.place_of-place.result in
    let ch = c.index-chain.result.now in
    let first = subst (λ (v : Linked). IsFirstOf v.queue.waiting c.args.queued.class c.args.queued) (sym c.self.view_is) c.requires in
    let is = is_found t h spots c.self.invariant.noted c.args.queued place c.place_of-place.ensures.within c.place_of-place.ensures.class c.place_of-place.ensures.priority first ch c.index-chain.ensures in
    some_read t h spots c.self.invariant.noted c.args.queued.job (record { n = ch.first; spot = record { place = place; before = 0 } }) is ch c.index-chain.ensures

pub leave-requires-clause-from_one : goal.leave-requires-clause-from_one
leave-requires-clause-from_one c =
    let t = tables_of c.self.inside in
    let h = c.self.invariant.tables in
    let spots = c.self.inside.spots.items in
    let place = c.place_of-place.result in
    let ch = c.index-chain.result.now in
    let first = subst (λ (v : Linked). IsFirstOf v.queue.waiting c.args.queued.class c.args.queued) (sym c.self.view_is) c.requires in
    let is = is_found t h spots c.self.invariant.noted c.args.queued place c.place_of-place.ensures.within c.place_of-place.ensures.class c.place_of-place.ensures.priority first ch c.index-chain.ensures in
    (there t h spots c.self.invariant.noted c.args.queued.job (record { n = ch.first; spot = record { place = place; before = 0 } }) is).0

pub leave-requires-clause-there : goal.leave-requires-clause-there
leave-requires-clause-there c =
    let t = tables_of c.self.inside in
    let h = c.self.invariant.tables in
    let spots = c.self.inside.spots.items in
    let place = c.place_of-place.result in
    let ch = c.index-chain.result.now in
    let first = subst (λ (v : Linked). IsFirstOf v.queue.waiting c.args.queued.class c.args.queued) (sym c.self.view_is) c.requires in
    let is = is_found t h spots c.self.invariant.noted c.args.queued place c.place_of-place.ensures.within c.place_of-place.ensures.class c.place_of-place.ensures.priority first ch c.index-chain.ensures in
    let at = there t h spots c.self.invariant.noted c.args.queued.job (record { n = ch.first; spot = record { place = place; before = 0 } }) is in
    let has = c.self.invariant.spots in
    omega (arith, at.1, has)

pub leave-requires-clause-next : goal.leave-requires-clause-next
leave-requires-clause-next c = λ other.
    let t = tables_of c.self.inside in
    let h = c.self.invariant.tables in
    let spots = c.self.inside.spots.items in
    let place = c.place_of-place.result in
    let ch = c.index-chain.result.now in
    let first = subst (λ (v : Linked). IsFirstOf v.queue.waiting c.args.queued.class c.args.queued) (sym c.self.view_is) c.requires in
    let is = is_found t h spots c.self.invariant.noted c.args.queued place c.place_of-place.ensures.within c.place_of-place.ensures.class c.place_of-place.ensures.priority first ch c.index-chain.ensures in
    let at = there t h spots c.self.invariant.noted c.args.queued.job (record { n = ch.first; spot = record { place = place; before = 0 } }) is in
    let number : suc (ch.first - 1) ≡ ch.first = omega (arith, at.0) in
    let in_table : ch.first - 1 < length t.records = (let room = h.room in omega (arith, at.0, at.1, room)) in
    let next_is : c.number-next.result ≡ link_in t ch.first =
    c.number-next.ensures.value ∙ ap (λ r. number_at r t.layout.link) (get_or_read t.records (ch.first - 1) c.index.result.now in_table c.index.ensures []) ∙ ap (link_in t) number in
    let next_at = next_read t h spots c.self.invariant.noted c.args.queued.job (record { n = ch.first; spot = record { place = place; before = 0 } }) is ch c.index-chain.ensures other in
    let has = c.self.invariant.spots in
    omega (arith, next_is, next_at.0, has)

pub leave-requires-clause-next_there : goal.leave-requires-clause-next_there
leave-requires-clause-next_there c = λ other.
    let t = tables_of c.self.inside in
    let h = c.self.invariant.tables in
    let spots = c.self.inside.spots.items in
    let place = c.place_of-place.result in
    let ch = c.index-chain.result.now in
    let first = subst (λ (v : Linked). IsFirstOf v.queue.waiting c.args.queued.class c.args.queued) (sym c.self.view_is) c.requires in
    let is = is_found t h spots c.self.invariant.noted c.args.queued place c.place_of-place.ensures.within c.place_of-place.ensures.class c.place_of-place.ensures.priority first ch c.index-chain.ensures in
    let at = there t h spots c.self.invariant.noted c.args.queued.job (record { n = ch.first; spot = record { place = place; before = 0 } }) is in
    let number : suc (ch.first - 1) ≡ ch.first = omega (arith, at.0) in
    let in_table : ch.first - 1 < length t.records = (let room = h.room in omega (arith, at.0, at.1, room)) in
    let next_is : c.number-next.result ≡ link_in t ch.first =
    c.number-next.ensures.value ∙ ap (λ r. number_at r t.layout.link) (get_or_read t.records (ch.first - 1) c.index.result.now in_table c.index.ensures []) ∙ ap (link_in t) number in
    let next_at = next_read t h spots c.self.invariant.noted c.args.queued.job (record { n = ch.first; spot = record { place = place; before = 0 } }) is ch c.index-chain.ensures other in
    let has = c.self.invariant.spots in
    omega (arith, next_is, next_at.1, has)

pub overflow_sub-self : goal.overflow_sub-self
overflow_sub-self c =
    let t = tables_of c.self.inside in
    let h = c.self.invariant.tables in
    let spots = c.self.inside.spots.items in
    let place = c.place_of-place.result in
    let ch = c.index-chain.result.now in
    let first = subst (λ (v : Linked). IsFirstOf v.queue.waiting c.args.queued.class c.args.queued) (sym c.self.view_is) c.requires in
    let is = is_found t h spots c.self.invariant.noted c.args.queued place c.place_of-place.ensures.within c.place_of-place.ensures.class c.place_of-place.ensures.priority first ch c.index-chain.ensures in
    fewer t h spots c.self.invariant.noted c.args.queued.job (record { n = ch.first; spot = record { place = place; before = 0 } }) is ch c.index-chain.ensures

pub invariant_of-self : goal.invariant_of-self
invariant_of-self c =
    let t = tables_of c.self.inside in
    let h = c.self.invariant.tables in
    let spots = c.self.inside.spots.items in
    let place = c.place_of-place.result in
    let ch = c.index-chain.result.now in
    let first = subst (λ (v : Linked). IsFirstOf v.queue.waiting c.args.queued.class c.args.queued) (sym c.self.view_is) c.requires in
    let is = is_found t h spots c.self.invariant.noted c.args.queued place c.place_of-place.ensures.within c.place_of-place.ensures.class c.place_of-place.ensures.priority first ch c.index-chain.ensures in
    let at = there t h spots c.self.invariant.noted c.args.queued.job (record { n = ch.first; spot = record { place = place; before = 0 } }) is in
    let number : suc (ch.first - 1) ≡ ch.first = omega (arith, at.0) in
    let in_table : ch.first - 1 < length t.records = (let room = h.room in omega (arith, at.0, at.1, room)) in
    let next_is : c.number-next.result ≡ link_in t ch.first =
    c.number-next.ensures.value ∙ ap (λ r. number_at r t.layout.link) (get_or_read t.records (ch.first - 1) c.index.result.now in_table c.index.ensures []) ∙ ap (link_in t) number in
    let left : IsLeft ch ch.first 0 c.number-next.result c.without.result =
    record { count = c.without.ensures.count; front = c.without.ensures.front; behind = c.without.ensures.behind; end = c.without.ensures.end; middle = c.without.ensures.middle } in
    let small = c.place_of-place.ensures.within in
    record {
      tables = chained_after t h spots c.self.invariant.noted c.args.queued.job (record { n = ch.first; spot = record { place = place; before = 0 } }) is ch c.index-chain.ensures c.number-next.result next_is c.without.result left t.records (λ none. refl) (λ more. absurd (more refl)) (λ more. absurd (more refl));
      noted = noted_after t h spots c.self.invariant.noted c.args.queued.job (record { n = ch.first; spot = record { place = place; before = 0 } }) is ch c.index-chain.ensures c.number-next.result next_is c.without.result left t.records (λ none. refl) (λ more. absurd (more refl)) (λ more. absurd (more refl))
          c.self.invariant.spots c.leave.new.spots.items c.leave.ensures.last c.leave.ensures.middle;
      spots = (let has = c.self.invariant.spots in
          let size = leave_size spots c.leave.new.spots.items ch.first ch.last c.number-next.result c.leave.ensures.last c.leave.ensures.middle in
          omega (arith, has, size));
      spanned = c.self.invariant.spanned;
      marked = marked_left c.self.inside.occupied t.chains c.deref.result.now place c.without.result c.is_occupied.result c.deref.ensures.value (omega (arith, small))
          c.is_occupied.ensures c.self.invariant.marked;
    }

pub returns-clause-left : goal.returns-clause-left
returns-clause-left c =
    let t = tables_of c.self.inside in
    let h = c.self.invariant.tables in
    let spots = c.self.inside.spots.items in
    let place = c.place_of-place.result in
    let ch = c.index-chain.result.now in
    let first = subst (λ (v : Linked). IsFirstOf v.queue.waiting c.args.queued.class c.args.queued) (sym c.self.view_is) c.requires in
    let is = is_found t h spots c.self.invariant.noted c.args.queued place c.place_of-place.ensures.within c.place_of-place.ensures.class c.place_of-place.ensures.priority first ch c.index-chain.ensures in
    let at = there t h spots c.self.invariant.noted c.args.queued.job (record { n = ch.first; spot = record { place = place; before = 0 } }) is in
    let number : suc (ch.first - 1) ≡ ch.first = omega (arith, at.0) in
    let in_table : ch.first - 1 < length t.records = (let room = h.room in omega (arith, at.0, at.1, room)) in
    let next_is : c.number-next.result ≡ link_in t ch.first =
    c.number-next.ensures.value ∙ ap (λ r. number_at r t.layout.link) (get_or_read t.records (ch.first - 1) c.index.result.now in_table c.index.ensures []) ∙ ap (link_in t) number in
    let left : IsLeft ch ch.first 0 c.number-next.result c.without.result =
    record { count = c.without.ensures.count; front = c.without.ensures.front; behind = c.without.ensures.behind; end = c.without.ensures.end; middle = c.without.ensures.middle } in
    queue_after t h spots c.self.invariant.noted c.args.queued.job (record { n = ch.first; spot = record { place = place; before = 0 } }) is ch c.index-chain.ensures c.number-next.result next_is c.without.result left t.records (λ none. refl) (λ more. absurd (more refl)) (λ more. absurd (more refl))
    ∙ ap (λ (v : Linked). record v.queue { waiting = filter (is_other c.args.queued.job) v.queue.waiting }) c.self.view_is
