use Rattle.std.proofs.Common.{◌≡◌, ℕ, ◌+◌, ◌-◌, ◌/◌, ◌%◌, ◌<◌, ◌≤◌, ◌∙◌, ap, arith, length, subst, suc, sym}
use Rattle.std.specs.Prelude.{slice_index_or}
use Rattle.std.proofs.lemmas.List.{get_or_read}
use Rattle.queue_core.specs.declared.queue.Queued.{Queued}
use Rattle.queue_core.specs.Queues.{HasNoneOf, IsFirstOf}
use Rattle.chain_store.specs.declared.chains.Chain.{Chain}
use Rattle.chain_store.specs.Chains.{AreEmpty, IsFirstUsed, no_chain}
use Rattle.chain_store.specs.Chained.{AreChained, Tables, chain_in, queue_in, tables_of}
use Rattle.chain_store.specs.Links.{owned_by}
use Rattle.chain_store.specs.Values.{Linked}
use Rattle.chain_store.proofs.Marked.{not_marked}
use Rattle.chain_store.proofs.Selecting.{first_there, is_first, none_of_class}
use Rattle.chain_store.proofs.store.ChainStoreRecordStore.first.Goals as goal

module _ (t : Tables) (h : AreChained t) (class from place : ℕ) (begins : 65 + from / 14 ≡ class) (top : 13 - from % 14 ≡ 13) (within : from < 210) (used : IsFirstUsed t.chains from place)
    (ch : Chain) (read : ch ≡ slice_index_or t.chains place ch) where
  highest : from % 14 ≡ 0
  highest = omega (arith, top)

  here : place < length t.chains
  here = let all = h.chains in let w = used.within in omega (arith, all, w, top, within)

  is_read : ch ≡ chain_in t place
  is_read = get_or_read t.chains place ch here read no_chain

  there : (1 ≤ ch.first) × (ch.first ≤ length t.owners)
  there = subst (λ (x : Chain). (1 ≤ x.first) × (x.first ≤ length t.owners)) (sym is_read) (first_there t h place here used.used)

  first_of : (q : Queued) (o : ℕ) → o ≡ slice_index_or t.owners (ch.first - 1) o → q.job ≡ o → q.jct ≡ ch.first → q.class ≡ 65 + place / 14 → q.priority ≡ 13 - place % 14 →
      IsFirstOf (queue_in t).waiting class q
  first_of q o owned job jct class_is priority =
      let at = there in
      let number : suc (ch.first - 1) ≡ ch.first = omega (arith, at.0) in
      let its_owner : o ≡ owned_by t.owners (chain_in t place).first =
      get_or_read t.owners (ch.first - 1) o (omega (arith, at.0, at.1)) owned 0 ∙ ap (owned_by t.owners) number ∙ ap (λ (x : Chain). owned_by t.owners x.first) is_read in
      let its_record : q.jct ≡ (chain_in t place).first = jct ∙ ap (λ (x : Chain). x.first) is_read in
      is_first t h class from begins highest place here used q
      (λ j. record { job = (job ∙ its_owner) j; jct = its_record j; class = class_is j; priority = priority j })

pub returns-then-not-self-from-clause-none : goal.returns-then-not-self-from-clause-none
returns-then-not-self-from-clause-none c =
    let t = tables_of c.self.inside in
    let from = c.place_of-from.result in
    let top = c.place_of-from.ensures.priority in
    let begins : from % 14 ≡ 0 = omega (arith, top) in
    subst (λ (v : Linked). HasNoneOf v.queue.waiting c.args.class) c.self.view_is
    (none_of_class t c.self.invariant.tables c.args.class from c.place_of-from.ensures.class begins
    (not_marked c.self.inside.occupied t.chains from (omega (arith, begins)) c.self.invariant.marked c.if-not-self-from.true))

pub returns-in-None-clause-none : goal.returns-in-None-clause-none
returns-in-None-clause-none c =
    let t = tables_of c.self.inside in
    let from = c.place_of-from.result in
    subst (λ (v : Linked). HasNoneOf v.queue.waiting c.args.class) c.self.view_is
    (none_of_class t c.self.invariant.tables c.args.class from c.place_of-from.ensures.class (let top = c.place_of-from.ensures.priority in omega (arith, top))
    (subst (λ cs. AreEmpty cs from (from + 14)) c.deref.ensures.value c.in-None.ensures.none))

pub overflow_sub-n : goal.overflow_sub-n
overflow_sub-n c =
    let t = tables_of c.self.inside in
    (there t c.self.invariant.tables c.args.class c.place_of-from.result c.in-Some.place c.place_of-from.ensures.class c.place_of-from.ensures.priority c.place_of-from.ensures.within
    (subst (λ cs. IsFirstUsed cs c.place_of-from.result c.in-Some.place) c.deref.ensures.value c.in-Some.ensures.some) c.index.result.now c.index.ensures).0

pub index-requires-in-Some : goal.index-requires-in-Some
index-requires-in-Some c =
    let t = tables_of c.self.inside in
    let at = there t c.self.invariant.tables c.args.class c.place_of-from.result c.in-Some.place c.place_of-from.ensures.class c.place_of-from.ensures.priority c.place_of-from.ensures.within
    (subst (λ cs. IsFirstUsed cs c.place_of-from.result c.in-Some.place) c.deref.ensures.value c.in-Some.ensures.some) c.index.result.now c.index.ensures in
    let whole = c.self.inside.owners.ok.0 in
    omega (arith, at.0, at.1, whole)

pub returns-in-Some-clause-some : goal.returns-in-Some-clause-some
returns-in-Some-clause-some c =
    let t = tables_of c.self.inside in
    subst (λ (v : Linked). IsFirstOf v.queue.waiting c.args.class c.queued_at.result) c.self.view_is
    (first_of t c.self.invariant.tables c.args.class c.place_of-from.result c.in-Some.place c.place_of-from.ensures.class c.place_of-from.ensures.priority c.place_of-from.ensures.within
    (subst (λ cs. IsFirstUsed cs c.place_of-from.result c.in-Some.place) c.deref.ensures.value c.in-Some.ensures.some) c.index.result.now c.index.ensures c.queued_at.result
    c.index-in-Some.result.now c.index-in-Some.ensures c.queued_at.ensures.job c.queued_at.ensures.jct c.queued_at.ensures.class c.queued_at.ensures.priority)
