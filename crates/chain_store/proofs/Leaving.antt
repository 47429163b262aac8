-- A job waits no longer in its chain.
use Rattle.std.proofs.Common.{◌≡◌, ◌≢◌, ℕ, zero, suc, ◌+◌, ◌-◌, ◌<◌, ◌≤◌, List, [], ◌∷◌, ◌++◌, All, length, map, arith, ◌∙◌, ap, sym, refl}
use Rattle.std.specs.Prelude.{filter, slice_set}
use Rattle.std.proofs.lemmas.List.{append-nil, append_assoc, map-append, set-get_or}
use Rattle.std.proofs.lemmas.List.Elements.{All-append, All-same}
use Rattle.queue_core.specs.declared.queue.Queued.{Queued}
use Rattle.cb_queue.specs.RecordQueues.{IsQueued}
use Rattle.chain_store.specs.declared.chains.Chain.{Chain}
use Rattle.chain_store.specs.Chains.{chain, is_other, job_at, jobs_of, last_of, walk}
use Rattle.chain_store.specs.Chained.{AreChained, Tables, chain_in, given_in, jobs_in, link_in, queue_in}
use Rattle.chain_store.specs.Links.{Changes, link_at, owned_by, record_of, unlinked_all}
use Rattle.chain_store.proofs.AllJobs.{chain_of_all}
use Rattle.chain_store.proofs.Entering.{other_records, owned_not_free, the_one, waits_owned}
use Rattle.chain_store.proofs.Jobs.{all_left, all_right}
use Rattle.chain_store.proofs.Ops.{each_waits, owned_place}
use Rattle.chain_store.proofs.Rechained as at
use Rattle.chain_store.proofs.Walks.{chain_cut, chain_split, last_behind, last_chain}

module _ (t : Tables) (h : AreChained t) (place : ℕ) (here : place < length t.chains) (waiting : ℕ) (fewer : waiting + 1 ≡ t.waiting) where
  abbrev owner : ℕ → ℕ
  owner = owned_by t.owners

  abbrev link : ℕ → ℕ
  link = link_in t

  abbrev old : Chain
  old = chain_in t place

  abbrev own_jobs : List Queued
  own_jobs = jobs_of owner link place old

  -- the first of its chain
  module _ (c : Chain) (first : c.first ≡ link old.first) (count : c.count + 1 ≡ old.count) (last : 1 ≢ old.count → c.last ≡ old.last) where
    abbrev back : List ℕ
    back = chain link (link old.first) c.count

    one_more : old.count ≡ suc c.count
    one_more = omega (arith, count)

    had_first : own_jobs ≡ [] ++ job_at owner place old.first ∷ map (job_at owner place) back
    had_first = ap (λ k. map (job_at owner place) (chain link old.first k)) one_more

    left_first : jobs_of owner link place c ≡ [] ++ map (job_at owner place) back
    left_first = ap (λ n. map (job_at owner place) (chain link n c.count)) first

    last_first : c.count ≢ 0 → last_of (chain link c.first c.count) ≡ c.last
    last_first some = by c.count refl some
      where
        by : (k : ℕ) → c.count ≡ k → k ≢ 0 → last_of (chain link c.first c.count) ≡ c.last
        by zero is more = absurd (more refl)
        by (suc k) is more =
            let whole : old.count ≡ suc (suc k) = omega (arith, is, count) in
            ap (λ n. last_of (chain link n c.count)) first ∙ ap (λ m. last_of (chain link (link old.first) m)) is
            ∙ ap (λ m. last_of (chain link old.first m)) (sym whole) ∙ h.last place (λ none. absurd (omega (arith, none, whole)))
            ∙ sym (last (λ alone. absurd (omega (arith, alone, whole))))

    pub queue_first_left : queue_in (record t { chains = slice_set t.chains place c; waiting = waiting }) ≡
        record (queue_in t) { waiting = filter (is_other (owner old.first)) (queue_in t).waiting }
    queue_first_left =
        at.queue_rechained t h place here c t.records waiting (λ _. Unit {0}) refl h.whole refl (λ m _. refl) (λ k d l. tt) (λ k d l. tt)
        ∙ ap (λ w. record (queue_in t) { waiting = w })
        (at.left_is t h place here c t.records waiting (λ _. Unit {0}) refl h.whole refl (λ m _. refl) (λ k d l. tt) (λ k d l. tt) (job_at owner place old.first) []
        (map (job_at owner place) back) had_first left_first last_first fewer)

    pub chained_first_left : AreChained (record t { chains = slice_set t.chains place c; waiting = waiting })
    chained_first_left =
        at.chained_left t h place here c t.records waiting (λ _. Unit {0}) refl h.whole refl (λ m _. refl) (λ k d l. tt) (λ k d l. tt) (job_at owner place old.first) []
        (map (job_at owner place) back) had_first left_first last_first fewer

  -- a later one: so many are before the record behind which it is
  module _ (a gone n : ℕ) (within : suc a < old.count) (gone_is : walk link old.first a ≡ gone) (n_is : walk link old.first (suc a) ≡ n) where
    pub b : ℕ
    b = old.count - suc (suc a)

    pub counted : old.count ≡ suc (suc a) + b
    unfolding b
    counted = omega (arith, within)

    abbrev front : List ℕ
    front = chain link old.first (suc a)

    abbrev rest : List ℕ
    rest = chain link (link n) b

    chain_is : chain link old.first old.count ≡ front ++ n ∷ rest
    chain_is =
        chain_split link old.first (suc a) (suc b) old.count (let k = counted in omega (arith, k)) ∙ ap (λ m. front ++ chain link m (suc b)) n_is

    front_is : front ≡ chain link old.first a ++ gone ∷ []
    front_is = chain_split link old.first a 1 (suc a) (omega arith) ∙ ap (λ m. chain link old.first a ++ m ∷ []) gone_is

    abbrev jobs : List ℕ → List Queued
    jobs ns = map (job_at owner place) ns

    abbrev it : Queued
    it = job_at owner place n

    had_later : own_jobs ≡ jobs front ++ it ∷ jobs rest
    had_later = ap jobs chain_is ∙ map-append (job_at owner place) front (n ∷ rest)

    abbrev ahead : List Queued
    ahead = at.before t h place here ++ jobs (chain link old.first a)

    abbrev after : List Queued
    after = it ∷ (jobs rest ++ at.behind t h place here)

    jobs_are : jobs_in t ≡ ahead ++ job_at owner place gone ∷ after
    jobs_are =
        at.split t h place here ∙ ap (λ xs. at.before t h place here ++ (xs ++ at.behind t h place here)) had_later
        ∙ ap (λ xs. at.before t h place here ++ xs) (append_assoc (jobs front) (it ∷ jobs rest) (at.behind t h place here))
        ∙ ap (λ ns. at.before t h place here ++ (jobs ns ++ after)) front_is
        ∙ ap (λ xs. at.before t h place here ++ (xs ++ after)) (map-append (job_at owner place) (chain link old.first a) (gone ∷ []))
        ∙ ap (λ xs. at.before t h place here ++ xs) (append_assoc (jobs (chain link old.first a)) (job_at owner place gone ∷ []) after)
        ∙ sym (append_assoc (at.before t h place here) (jobs (chain link old.first a)) (job_at owner place gone ∷ after))

    others : All (λ y. y.jct ≢ gone) (ahead ++ after)
    others = other_records t h (job_at owner place gone) ahead after jobs_are

    pub gone_owned : (1 ≤ gone) × (gone ≤ length t.owners)
    gone_owned =
        owned_place t h gone
        (waits_owned t h (job_at owner place gone)
        (the_one (IsQueued (queue_in t)) ahead (job_at owner place gone) after (All-same (IsQueued (queue_in t)) (ahead ++ job_at owner place gone ∷ after) (jobs_in t) (sym jobs_are) (each_waits t h))))

    module _ (new : List (List ℕ)) (change : Changes t.layout t.records new (gone - 1) (record_of t.layout t.records (gone - 1))) (led : link_at t.layout new gone ≡ link n)
        (c : Chain) (first : c.first ≡ old.first) (count : c.count + 1 ≡ old.count) (at_end : suc (suc a) ≡ old.count → c.last ≡ gone) (in_middle : suc (suc a) ≢ old.count → c.last ≡ old.last) where
      links : (m : ℕ) → m ≢ gone → link_at t.layout new m ≡ link m
      links zero other = refl
      links (suc i) other = change.others i (λ is. let there = gone_owned in other (omega (arith, is, there.0)))

      same : unlinked_all t.layout new ≡ unlinked_all t.layout t.records
      same = change.value ∙ set-get_or (unlinked_all t.layout t.records) (gone - 1) []

      ahead_apart : All (λ x. x.jct ≢ gone) ahead
      ahead_apart = all_left (λ x. x.jct ≢ gone) ahead after others

      after_apart : All (λ x. x.jct ≢ gone) (jobs rest ++ at.behind t h place here)
      after_apart = all_right (λ x. x.jct ≢ gone) (it ∷ []) (jobs rest ++ at.behind t h place here) (all_right (λ x. x.jct ≢ gone) ahead after others)

      apart : All (λ x. x.jct ≢ gone) (at.before t h place here ++ at.behind t h place here)
      apart =
          All-append (λ x. x.jct ≢ gone) (at.before t h place here) (at.behind t h place here)
          (all_left (λ x. x.jct ≢ gone) (at.before t h place here) (jobs (chain link old.first a)) ahead_apart)
          (all_right (λ x. x.jct ≢ gone) (jobs rest) (at.behind t h place here) after_apart)

      front_apart : All (λ m. m ≢ gone) (chain link old.first a)
      front_apart =
          chain_of_all owner link (λ x. x.jct ≢ gone) place old.first a
          (all_right (λ x. x.jct ≢ gone) (at.before t h place here) (jobs (chain link old.first a)) ahead_apart)

      rest_apart : All (λ m. m ≢ gone) rest
      rest_apart = chain_of_all owner link (λ x. x.jct ≢ gone) place (link n) b (all_left (λ x. x.jct ≢ gone) (jobs rest) (at.behind t h place here) after_apart)

      pub chain_left : chain (link_at t.layout new) c.first c.count ≡ front ++ rest
      chain_left =
          let k = counted in
          let size : c.count ≡ suc (a + b) = omega (arith, k, count) in
          (λ j. chain (link_at t.layout new) (first j) (size j))
          ∙ chain_cut link (link_at t.layout new) gone links old.first a b (link n) (a + b) refl led gone_is front_apart rest_apart

      left_later : jobs_of owner (link_at t.layout new) place c ≡ jobs front ++ jobs rest
      left_later = ap jobs chain_left ∙ map-append (job_at owner place) front rest

      last_later : c.count ≢ 0 → last_of (chain (link_at t.layout new) c.first c.count) ≡ c.last
      last_later some = ap last_of chain_left ∙ by b refl
        where
          by : (k : ℕ) → b ≡ k → last_of (front ++ chain link (link n) b) ≡ c.last
          by zero is =
              ap (λ k. last_of (front ++ chain link (link n) k)) is ∙ ap last_of (append-nil front) ∙ last_chain link old.first a ∙ gone_is
              ∙ sym (at_end (let k = counted in omega (arith, k, is)))
          by (suc k) is =
              ap (λ m. last_of (front ++ chain link (link n) m)) is
              ∙ last_behind front (link n) (chain link (link (link n)) k) ∙ sym (last_behind front n (chain link (link n) (suc k)))
              ∙ ap (λ m. last_of (front ++ n ∷ chain link (link n) m)) (sym is) ∙ sym (ap last_of chain_is)
              ∙ h.last place (λ none. absurd (omega (arith, none, within)))
              ∙ sym (in_middle (λ end. let k = counted in absurd (omega (arith, k, is, end))))

      free_apart : All (λ m. m ≢ gone) (given_in t)
      free_apart =
          owned_not_free t h gone
          (waits_owned t h (job_at owner place gone)
          (the_one (IsQueued (queue_in t)) ahead (job_at owner place gone) after (All-same (IsQueued (queue_in t)) (ahead ++ job_at owner place gone ∷ after) (jobs_in t) (sym jobs_are) (each_waits t h))))

      pub queue_later_left : queue_in (record t { records = new; chains = slice_set t.chains place c; waiting = waiting }) ≡
          record (queue_in t) { waiting = filter (is_other (owner n)) (queue_in t).waiting }
      queue_later_left =
          at.queue_rechained t h place here c new waiting (λ m. m ≢ gone) change.size (change.whole h.whole) same links apart free_apart
          ∙ ap (λ w. record (queue_in t) { waiting = w })
          (at.left_is t h place here c new waiting (λ m. m ≢ gone) change.size (change.whole h.whole) same links apart free_apart it (jobs front) (jobs rest) had_later left_later last_later fewer)

      pub chained_later_left : AreChained (record t { records = new; chains = slice_set t.chains place c; waiting = waiting })
      chained_later_left =
          at.chained_left t h place here c new waiting (λ m. m ≢ gone) change.size (change.whole h.whole) same links apart free_apart it (jobs front) (jobs rest) had_later left_later last_later fewer
