use Rattle.std.proofs.Common.{◌≡◌, ◌≢◌, ℕ, suc, ◌+◌, ◌-◌, ◌/◌, ◌%◌, ◌<◌, ◌≤◌, [], ◌∙◌, All, List, None, Option, ap, arith, length, subst, sym}
use Rattle.std.specs.Prelude.{filter, slice_index_or, slice_set}
use Rattle.std.proofs.lemmas.List.{get_or_read}
use Rattle.std.proofs.lemmas.List.Elements.{All-weaker}
use Rattle.cb_meaning.specs.Fields.{number_at}
use Rattle.cb_queue.specs.RecordQueues.{HasNoneBetween, IsQueued, IsSoundQueue, RecordQueue}
use Rattle.queue_core.specs.declared.queue.Queued.{Queued}
use Rattle.queue_core.specs.Queues.{IsJobOf}
use Rattle.chain_store.specs.declared.chains.Chain.{Chain}
use Rattle.chain_store.specs.declared.spots.Found.{Found}
use Rattle.chain_store.specs.declared.spots.Spot.{Spot}
use Rattle.chain_store.specs.Chains.{is_other}
use Rattle.chain_store.specs.Chained.{AreChained, Tables, chained_in, link_in, linked, queue_in, tables_of}
use Rattle.chain_store.specs.Links.{Changes, link_at, record_of}
use Rattle.chain_store.specs.Spots.{AreNoted, HasNoSpot, IsFound, spot_of}
use Rattle.chain_store.specs.Values.{Linked}
use Rattle.chain_store.proofs.Cancelling.{IsLeft, before_there, chained_after, fewer, here, is_job_of, leave_size, next_read, none_left, noted_after, queue_after, some_read, there}
use Rattle.chain_store.proofs.Jobs.{filter_all}
use Rattle.chain_store.proofs.Marked.{marked_left}
use Rattle.chain_store.proofs.store.ChainStoreRecordStore.remove.Goals as goal

-- what is lent of the owners and the spots is what there is
lent_found : (owners lent : List ℕ) (spots lent_spots : List (Option Spot)) (job : ℕ) (found : Found) → lent ≡ owners → lent_spots ≡ spots → IsFound lent lent_spots job found → IsFound owners spots job found
lent_found owners lent spots lent_spots job found a b is = subst (λ ss. IsFound owners ss job found) b (subst (λ os. IsFound os lent_spots job found) a is)

lent_none : (owners lent : List ℕ) (spots lent_spots : List (Option Spot)) (job low high : ℕ) → lent ≡ owners → lent_spots ≡ spots → HasNoSpot lent lent_spots job low high →
    HasNoSpot owners spots job low high
lent_none owners lent spots lent_spots job low high a b none = subst (λ ss. HasNoSpot owners ss job low high) b (subst (λ os. HasNoSpot os lent_spots job low high) a none)

-- a job has a number that is not 0
none_zero : (q : RecordQueue) → IsSoundQueue q → (job : ℕ) → job ≡ 0 → All (λ x. x.job ≢ job) q.waiting
none_zero q sound job is = All-weaker (IsQueued q) (λ x. x.job ≢ job) (λ x own same. own.job (same ∙ is)) q.waiting sound.queued

pub returns-then-job-eq0-clause-none : goal.returns-then-job-eq0-clause-none
returns-then-job-eq0-clause-none c = none_zero c.args.self.now.queue c.layout-layout.ensures.sound c.args.job c.if-job-eq0.true

pub returns-then-job-eq0-clause-left : goal.returns-then-job-eq0-clause-left
returns-then-job-eq0-clause-left c =
    ap (λ waiting. record c.args.self.now.queue { waiting = waiting })
    (sym (filter_all c.args.job c.args.self.now.queue.waiting (none_zero c.args.self.now.queue c.layout-layout.ensures.sound c.args.job c.if-job-eq0.true)))

pub returns-in-None-clause-none : goal.returns-in-None-clause-none
returns-in-None-clause-none c =
    let t = tables_of c.self.inside in
    let h = c.self.invariant.tables in
    subst (λ (v : Linked). All (λ x. x.job ≢ c.args.job) v.queue.waiting) c.self.view_is
    (none_left t h c.self.inside.spots.items c.self.invariant.noted c.args.job c.span-span.result.low c.span-span.result.high (length (queue_in t).records)
    (subst (λ (v : Linked). HasNoneBetween v.queue c.args.job 0 c.span-span.result.low) (sym c.self.view_is) c.span-span.ensures.none_before)
    (subst (λ (v : Linked). HasNoneBetween v.queue c.args.job c.span-span.result.high (length v.queue.records)) (sym c.self.view_is) c.span-span.ensures.none_behind)
    (let size = h.sound.size in let most = h.most in omega (arith, size, most))
    (lent_none c.self.inside.owners.items c.deref.result.now c.self.inside.spots.items c.deref-2.result.now c.args.job c.span-span.result.low c.span-span.result.high c.deref.ensures.value
    c.deref-2.ensures.value c.in-None.ensures.none))

pub returns-in-None-clause-left : goal.returns-in-None-clause-left
returns-in-None-clause-left c =
    let t = tables_of c.self.inside in
    let h = c.self.invariant.tables in
    let none = subst (λ (v : Linked). All (λ x. x.job ≢ c.args.job) v.queue.waiting) c.self.view_is
    (none_left t h c.self.inside.spots.items c.self.invariant.noted c.args.job c.span-span.result.low c.span-span.result.high (length (queue_in t).records)
    (subst (λ (v : Linked). HasNoneBetween v.queue c.args.job 0 c.span-span.result.low) (sym c.self.view_is) c.span-span.ensures.none_before)
    (subst (λ (v : Linked). HasNoneBetween v.queue c.args.job c.span-span.result.high (length v.queue.records)) (sym c.self.view_is) c.span-span.ensures.none_behind)
    (let size = h.sound.size in let most = h.most in omega (arith, size, most))
    (lent_none c.self.inside.owners.items c.deref.result.now c.self.inside.spots.items c.deref-2.result.now c.args.job c.span-span.result.low c.span-span.result.high c.deref.ensures.value
    c.deref-2.ensures.value c.in-None.ensures.none)) in
    ap (λ waiting. record c.args.self.now.queue { waiting = waiting }) (sym (filter_all c.args.job c.args.self.now.queue.waiting none))

module _ (t : Tables) (h : AreChained t) (spots : List (Option Spot)) (noted : AreNoted spots (chained_in t)) (job : ℕ) (found : Found) (is : IsFound t.owners spots job found) (place : ℕ)
    (at : place ≡ found.spot.place) (ch : Chain) (read : ch ≡ slice_index_or t.chains place ch) where
  read_at : ch ≡ slice_index_or t.chains found.spot.place ch
  read_at = read ∙ ap (λ p. slice_index_or t.chains p ch) at

  place_there : place < length t.chains
  place_there = subst (λ p. p < length t.chains) (sym at) (here t h spots noted job found is)

  its_job : (q : Queued) → q.job ≡ job → q.jct ≡ found.n → q.class ≡ 65 + place / 14 → q.priority ≡ 13 - place % 14 → IsJobOf (queue_in t).waiting job q
  its_job q same jct class priority =
      is_job_of t h spots noted job found is ch read_at q same jct (class ∙ ap (λ p. 65 + p / 14) at) (priority ∙ ap (λ p. 13 - p % 14) at)

  module _ (next : ℕ) (next_is : next ≡ link_in t found.n) (left : Chain) (facts : IsLeft ch found.n found.spot.before next left) (new : List (List ℕ)) (none : found.spot.before ≡ 0 → new ≡ t.records)
      (change : found.spot.before ≢ 0 → Changes t.layout t.records new (found.spot.before - 1) (record_of t.layout t.records (found.spot.before - 1)))
      (led : found.spot.before ≢ 0 → link_at t.layout new found.spot.before ≡ next) where
    abbrev now : ℕ → Tables
    now p = record t { records = new; chains = slice_set t.chains p left; waiting = t.waiting - 1 }

    chained_now : AreChained (now place)
    chained_now = subst (λ p. AreChained (now p)) (sym at) (chained_after t h spots noted job found is ch read_at next next_is left facts new none change led)

    queue_now : queue_in (now place) ≡ record (queue_in t) { waiting = filter (is_other job) (queue_in t).waiting }
    queue_now =
        subst (λ p. queue_in (now p) ≡ record (queue_in t) { waiting = filter (is_other job) (queue_in t).waiting }) (sym at)
        (queue_after t h spots noted job found is ch read_at next next_is left facts new none change led)

    noted_now : length t.owners ≤ length spots → (spots_now : List (Option Spot)) → (found.n ≡ ch.last → spots_now ≡ slice_set spots (found.n - 1) None) →
        (found.n ≢ ch.last → spots_now ≡ slice_set (slice_set spots (found.n - 1) None) (next - 1) (spot_of spots found.n)) → AreNoted spots_now (chained_in (now place))
    noted_now size spots_now at_end in_middle =
        subst (λ p. AreNoted spots_now (chained_in (now p))) (sym at)
        (noted_after t h spots noted job found is ch read_at next next_is left facts new none change led size spots_now at_end in_middle)

in_owners : (t : Tables) (h : AreChained t) (v : Linked) → linked t ≡ v → (high : ℕ) → high + v.lacking ≤ length v.queue.records → high ≤ length t.owners
in_owners t h v is high known =
    let within = subst (λ (x : Linked). high + x.lacking ≤ length x.queue.records) (sym is) known in
    let size = h.sound.size in
    let most = h.most in
    omega (arith, within, size, most)

pub find-requires-clause-owned : goal.find-requires-clause-owned
find-requires-clause-owned c =
    let same = ap length c.deref.ensures.value in
    let within = in_owners (tables_of c.self.inside) c.self.invariant.tables c.args.self.now c.self.view_is c.span-span.result.high c.span-span.ensures.known in
    omega (arith, within, same)

pub find-requires-clause-there : goal.find-requires-clause-there
find-requires-clause-there c =
    let has = c.self.invariant.spots in
    let same = ap length c.deref-2.ensures.value in
    let within = in_owners (tables_of c.self.inside) c.self.invariant.tables c.args.self.now c.self.view_is c.span-span.result.high c.span-span.ensures.known in
    omega (arith, within, has, same)

pub index-requires : goal.index-requires
index-requires c =
    let is = lent_found c.self.inside.owners.items c.deref.result.now c.self.inside.spots.items c.deref-2.result.now c.args.job c.in-Some.found c.deref.ensures.value c.deref-2.ensures.value
    c.in-Some.ensures.some in
    let at = there (tables_of c.self.inside) c.self.invariant.tables c.self.inside.spots.items c.self.invariant.noted c.args.job c.in-Some.found is in
    let room = c.self.invariant.tables.room in
    let whole = c.self.inside.records.ok.0 in
    omega (arith, at.0, at.1, room, whole)

pub index_mut-requires : goal.index_mut-requires
index_mut-requires c =
    let is = lent_found c.self.inside.owners.items c.deref.result.now c.self.inside.spots.items c.deref-2.result.now c.args.job c.in-Some.found c.deref.ensures.value c.deref-2.ensures.value
    c.in-Some.ensures.some in
    let stands = place_there (tables_of c.self.inside) c.self.invariant.tables c.self.inside.spots.items c.self.invariant.noted c.args.job c.in-Some.found is
    c.from-place.result c.from-place.ensures c.index-chain.result.now c.index-chain.ensures in
    let whole = c.self.inside.chains.ok.0 in
    omega (arith, stands, whole)

pub relink_before-requires-clause-there : goal.relink_before-requires-clause-there
relink_before-requires-clause-there c =
    let is = lent_found c.self.inside.owners.items c.deref.result.now c.self.inside.spots.items c.deref-2.result.now c.args.job c.in-Some.found c.deref.ensures.value c.deref-2.ensures.value
    c.in-Some.ensures.some in
    let at = before_there (tables_of c.self.inside) c.self.invariant.tables c.self.inside.spots.items c.self.invariant.noted c.args.job c.in-Some.found is in
    let room = c.self.invariant.tables.room in
    omega (arith, at, room)

pub without-requires : goal.without-requires
without-requires c =
    let is = lent_found c.self.inside.owners.items c.deref.result.now c.self.inside.spots.items c.deref-2.result.now c.args.job c.in-Some.found c.deref.ensures.value c.deref-2.ensures.value
    c.in-Some.ensures.some in
    some_read (tables_of c.self.inside) c.self.invariant.tables c.self.inside.spots.items c.self.invariant.noted c.args.job c.in-Some.found is c.index-chain.result.now
    (read_at (tables_of c.self.inside) c.self.invariant.tables c.self.inside.spots.items c.self.invariant.noted c.args.job c.in-Some.found is c.from-place.result c.from-place.ensures c.index-chain.result.now c.index-chain.ensures)

pub leave-requires-clause-there : goal.leave-requires-clause-there
leave-requires-clause-there c =
    let is = lent_found c.self.inside.owners.items c.deref.result.now c.self.inside.spots.items c.deref-2.result.now c.args.job c.in-Some.found c.deref.ensures.value c.deref-2.ensures.value
    c.in-Some.ensures.some in
    let at = there (tables_of c.self.inside) c.self.invariant.tables c.self.inside.spots.items c.self.invariant.noted c.args.job c.in-Some.found is in
    let has = c.self.invariant.spots in
    omega (arith, at.1, has)

pub overflow_sub-self : goal.overflow_sub-self
overflow_sub-self c =
    let is = lent_found c.self.inside.owners.items c.deref.result.now c.self.inside.spots.items c.deref-2.result.now c.args.job c.in-Some.found c.deref.ensures.value c.deref-2.ensures.value
    c.in-Some.ensures.some in
    fewer (tables_of c.self.inside) c.self.invariant.tables c.self.inside.spots.items c.self.invariant.noted c.args.job c.in-Some.found is c.index-chain.result.now
    (read_at (tables_of c.self.inside) c.self.invariant.tables c.self.inside.spots.items c.self.invariant.noted c.args.job c.in-Some.found is c.from-place.result c.from-place.ensures c.index-chain.result.now c.index-chain.ensures)

pub leave-requires-clause-next : goal.leave-requires-clause-next
leave-requires-clause-next c = λ other.
    let t = tables_of c.self.inside in
    let h = c.self.invariant.tables in
    let is = lent_found c.self.inside.owners.items c.deref.result.now c.self.inside.spots.items c.deref-2.result.now c.args.job c.in-Some.found c.deref.ensures.value c.deref-2.ensures.value
    c.in-Some.ensures.some in
    let at = there (tables_of c.self.inside) c.self.invariant.tables c.self.inside.spots.items c.self.invariant.noted c.args.job c.in-Some.found is in
    let number : suc (c.in-Some.found.n - 1) ≡ c.in-Some.found.n = omega (arith, at.0) in
    let in_table : c.in-Some.found.n - 1 < length t.records = (let room = h.room in omega (arith, at.0, at.1, room)) in
    let next_is : c.number-next.result ≡ link_in t c.in-Some.found.n =
    c.number-next.ensures.value ∙ ap (λ r. number_at r t.layout.link) (get_or_read t.records (c.in-Some.found.n - 1) c.index.result.now in_table c.index.ensures []) ∙ ap (link_in t) number in
    let next_at = next_read (tables_of c.self.inside) c.self.invariant.tables c.self.inside.spots.items c.self.invariant.noted c.args.job c.in-Some.found is c.index-chain.result.now
    (read_at (tables_of c.self.inside) c.self.invariant.tables c.self.inside.spots.items c.self.invariant.noted c.args.job c.in-Some.found is c.from-place.result c.from-place.ensures c.index-chain.result.now c.index-chain.ensures) other in
    let has = c.self.invariant.spots in
    omega (arith, next_is, next_at.0, has)

pub leave-requires-clause-next_there : goal.leave-requires-clause-next_there
leave-requires-clause-next_there c = λ other.
    let t = tables_of c.self.inside in
    let h = c.self.invariant.tables in
    let is = lent_found c.self.inside.owners.items c.deref.result.now c.self.inside.spots.items c.deref-2.result.now c.args.job c.in-Some.found c.deref.ensures.value c.deref-2.ensures.value
    c.in-Some.ensures.some in
    let at = there (tables_of c.self.inside) c.self.invariant.tables c.self.inside.spots.items c.self.invariant.noted c.args.job c.in-Some.found is in
    let number : suc (c.in-Some.found.n - 1) ≡ c.in-Some.found.n = omega (arith, at.0) in
    let in_table : c.in-Some.found.n - 1 < length t.records = (let room = h.room in omega (arith, at.0, at.1, room)) in
    let next_is : c.number-next.result ≡ link_in t c.in-Some.found.n =
    c.number-next.ensures.value ∙ ap (λ r. number_at r t.layout.link) (get_or_read t.records (c.in-Some.found.n - 1) c.index.result.now in_table c.index.ensures []) ∙ ap (link_in t) number in
    let next_at = next_read (tables_of c.self.inside) c.self.invariant.tables c.self.inside.spots.items c.self.invariant.noted c.args.job c.in-Some.found is c.index-chain.result.now
    (read_at (tables_of c.self.inside) c.self.invariant.tables c.self.inside.spots.items c.self.invariant.noted c.args.job c.in-Some.found is c.from-place.result c.from-place.ensures c.index-chain.result.now c.index-chain.ensures) other in
    let has = c.self.invariant.spots in
    omega (arith, next_is, next_at.1, has)

pub is_occupied-requires-clause-within : goal.is_occupied-requires-clause-within
is_occupied-requires-clause-within c =
    let is = lent_found c.self.inside.owners.items c.deref.result.now c.self.inside.spots.items c.deref-2.result.now c.args.job c.in-Some.found c.deref.ensures.value c.deref-2.ensures.value
    c.in-Some.ensures.some in
    let here = place_there (tables_of c.self.inside) c.self.invariant.tables c.self.inside.spots.items c.self.invariant.noted c.args.job c.in-Some.found is c.from-place.result c.from-place.ensures c.index-chain.result.now c.index-chain.ensures in
    let all = c.self.invariant.tables.chains in
    omega (arith, here, all)

pub bounds-self-inside-place : goal.bounds-self-inside-place
bounds-self-inside-place c =
    let is = lent_found c.self.inside.owners.items c.deref.result.now c.self.inside.spots.items c.deref-2.result.now c.args.job c.in-Some.found c.deref.ensures.value c.deref-2.ensures.value
    c.in-Some.ensures.some in
    let here = place_there (tables_of c.self.inside) c.self.invariant.tables c.self.inside.spots.items c.self.invariant.noted c.args.job c.in-Some.found is c.from-place.result c.from-place.ensures c.index-chain.result.now c.index-chain.ensures in
    let all = c.self.invariant.tables.chains in
    omega (arith, here, all)

pub queued_at-requires : goal.queued_at-requires
queued_at-requires c =
    let is = lent_found c.self.inside.owners.items c.deref.result.now c.self.inside.spots.items c.deref-2.result.now c.args.job c.in-Some.found c.deref.ensures.value c.deref-2.ensures.value
    c.in-Some.ensures.some in
    let here = place_there (tables_of c.self.inside) c.self.invariant.tables c.self.inside.spots.items c.self.invariant.noted c.args.job c.in-Some.found is c.from-place.result c.from-place.ensures c.index-chain.result.now c.index-chain.ensures in
    let all = c.self.invariant.tables.chains in
    omega (arith, here, all)

pub invariant_of-self : goal.invariant_of-self
invariant_of-self c =
    let t = tables_of c.self.inside in
    let h = c.self.invariant.tables in
    let is = lent_found c.self.inside.owners.items c.deref.result.now c.self.inside.spots.items c.deref-2.result.now c.args.job c.in-Some.found c.deref.ensures.value c.deref-2.ensures.value
    c.in-Some.ensures.some in
    let at = there (tables_of c.self.inside) c.self.invariant.tables c.self.inside.spots.items c.self.invariant.noted c.args.job c.in-Some.found is in
    let number : suc (c.in-Some.found.n - 1) ≡ c.in-Some.found.n = omega (arith, at.0) in
    let in_table : c.in-Some.found.n - 1 < length t.records = (let room = h.room in omega (arith, at.0, at.1, room)) in
    let next_is : c.number-next.result ≡ link_in t c.in-Some.found.n =
    c.number-next.ensures.value ∙ ap (λ r. number_at r t.layout.link) (get_or_read t.records (c.in-Some.found.n - 1) c.index.result.now in_table c.index.ensures []) ∙ ap (link_in t) number in
    let left : IsLeft c.index-chain.result.now c.in-Some.found.n c.in-Some.found.spot.before c.number-next.result c.without.result =
    record { count = c.without.ensures.count; front = c.without.ensures.front; behind = c.without.ensures.behind; end = c.without.ensures.end; middle = c.without.ensures.middle } in
    record {
      tables = chained_now (tables_of c.self.inside) c.self.invariant.tables c.self.inside.spots.items c.self.invariant.noted c.args.job c.in-Some.found is c.from-place.result c.from-place.ensures c.index-chain.result.now c.index-chain.ensures
          c.number-next.result next_is c.without.result left c.relink_before.new.records.items c.relink_before.ensures.none
          c.relink_before.ensures.change c.relink_before.ensures.link;
      noted = noted_now (tables_of c.self.inside) c.self.invariant.tables c.self.inside.spots.items c.self.invariant.noted c.args.job c.in-Some.found is c.from-place.result c.from-place.ensures c.index-chain.result.now c.index-chain.ensures
          c.number-next.result next_is c.without.result left c.relink_before.new.records.items c.relink_before.ensures.none
          c.relink_before.ensures.change c.relink_before.ensures.link c.self.invariant.spots c.leave.new.spots.items c.leave.ensures.last c.leave.ensures.middle;
      spots = (let has = c.self.invariant.spots in
          let size = leave_size c.self.inside.spots.items c.leave.new.spots.items c.in-Some.found.n c.index-chain.result.now.last c.number-next.result c.leave.ensures.last c.leave.ensures.middle in
          omega (arith, has, size));
      spanned = c.self.invariant.spanned;
      marked = marked_left c.self.inside.occupied t.chains c.deref-in-Some.result.now c.from-place.result c.without.result c.is_occupied.result c.deref-in-Some.ensures.value
          (let all = h.chains in let here = place_there (tables_of c.self.inside) c.self.invariant.tables c.self.inside.spots.items c.self.invariant.noted c.args.job c.in-Some.found is c.from-place.result c.from-place.ensures c.index-chain.result.now c.index-chain.ensures in omega (arith, here, all)) c.is_occupied.ensures c.self.invariant.marked;
    }

pub returns-in-Some-clause-left : goal.returns-in-Some-clause-left
returns-in-Some-clause-left c =
    let t = tables_of c.self.inside in
    let h = c.self.invariant.tables in
    let is = lent_found c.self.inside.owners.items c.deref.result.now c.self.inside.spots.items c.deref-2.result.now c.args.job c.in-Some.found c.deref.ensures.value c.deref-2.ensures.value
    c.in-Some.ensures.some in
    let at = there (tables_of c.self.inside) c.self.invariant.tables c.self.inside.spots.items c.self.invariant.noted c.args.job c.in-Some.found is in
    let number : suc (c.in-Some.found.n - 1) ≡ c.in-Some.found.n = omega (arith, at.0) in
    let in_table : c.in-Some.found.n - 1 < length t.records = (let room = h.room in omega (arith, at.0, at.1, room)) in
    let next_is : c.number-next.result ≡ link_in t c.in-Some.found.n =
    c.number-next.ensures.value ∙ ap (λ r. number_at r t.layout.link) (get_or_read t.records (c.in-Some.found.n - 1) c.index.result.now in_table c.index.ensures []) ∙ ap (link_in t) number in
    let left : IsLeft c.index-chain.result.now c.in-Some.found.n c.in-Some.found.spot.before c.number-next.result c.without.result =
    record { count = c.without.ensures.count; front = c.without.ensures.front; behind = c.without.ensures.behind; end = c.without.ensures.end; middle = c.without.ensures.middle } in
    queue_now (tables_of c.self.inside) c.self.invariant.tables c.self.inside.spots.items c.self.invariant.noted c.args.job c.in-Some.found is c.from-place.result c.from-place.ensures c.index-chain.result.now c.index-chain.ensures
    c.number-next.result next_is c.without.result left c.relink_before.new.records.items c.relink_before.ensures.none
    c.relink_before.ensures.change c.relink_before.ensures.link
    ∙ ap (λ (v : Linked). record v.queue { waiting = filter (is_other c.args.job) v.queue.waiting }) c.self.view_is

pub returns-in-Some-clause-some : goal.returns-in-Some-clause-some
returns-in-Some-clause-some c =
    let t = tables_of c.self.inside in
    let h = c.self.invariant.tables in
    let is = lent_found c.self.inside.owners.items c.deref.result.now c.self.inside.spots.items c.deref-2.result.now c.args.job c.in-Some.found c.deref.ensures.value c.deref-2.ensures.value
    c.in-Some.ensures.some in
    subst (λ (v : Linked). IsJobOf v.queue.waiting c.args.job c.queued_at.result) c.self.view_is
    (its_job (tables_of c.self.inside) c.self.invariant.tables c.self.inside.spots.items c.self.invariant.noted c.args.job c.in-Some.found is c.from-place.result c.from-place.ensures c.index-chain.result.now c.index-chain.ensures c.queued_at.result c.queued_at.ensures.job c.queued_at.ensures.jct
    c.queued_at.ensures.class c.queued_at.ensures.priority)
