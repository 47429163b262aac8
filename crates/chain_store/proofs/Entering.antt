-- A job waits in the chain of its class and priority.
use Rattle.std.proofs.Common.{◌≡◌, ◌≢◌, ℕ, zero, suc, ◌+◌, ◌-◌, ◌^◌, ◌/◌, ◌%◌, ◌<◌, ◌≤◌, List, [], ◌∷◌, ◌++◌, All, length, map, arith, ◌∙◌, ap, sym, refl, subst}
use Rattle.std.specs.Prelude.{slice_set}
use Rattle.std.proofs.lemmas.List.{append_assoc, length-append, length-map, map-append, set-get_or}
use Rattle.std.proofs.lemmas.List.Elements.{All-append, All-head, All-same}
use Rattle.queue_core.specs.declared.queue.Queued.{Queued}
use Rattle.plain.specs.Lists.{numbers_from}
use Rattle.cb_queue.specs.RecordQueues.{IsQueued, owner_at, record_at}
use Rattle.cb_queue.proofs.Changing.{used_of}
use Rattle.chain_store.specs.declared.chains.Chain.{Chain}
use Rattle.chain_store.specs.Chains.{AreDifferentJobs, chain, job_at, jobs_of, last_of, walk}
use Rattle.chain_store.specs.Chained.{AreChained, Tables, chain_in, given_in, jobs_in, link_in, queue_in}
use Rattle.chain_store.specs.Links.{Changes, link_at, owned_by, record_of, unlinked_all}
use Rattle.chain_store.proofs.AllJobs.{all_each, chain_of_all}
use Rattle.chain_store.proofs.Jobs.{all_left, all_right, no_job_all, others_differ}
use Rattle.chain_store.proofs.Ops.{each_waits, few_wait, owned_place, owner_there, used_not_free}
use Rattle.chain_store.proofs.Rechained as at
use Rattle.chain_store.proofs.Walks.{chain_pushed, chain_split, last_chain, last_push, length-chain}

-- those that are among some others
pub without_one : {A : Type 0} (P : A → Type 0) (front : List A) (x : A) (back : List A) → All P (front ++ x ∷ back) → All P (front ++ back)
without_one P front x back all =
    All-append P front back (all_left P front (x ∷ back) all) (all_right P (x ∷ []) back (all_right P front (x ∷ back) all))

pub the_one : {A : Type 0} (P : A → Type 0) (front : List A) (x : A) (back : List A) → All P (front ++ x ∷ back) → P x
the_one P front x back all = All-head P x back (all_right P front (x ∷ back) all)

module _ (t : Tables) (h : AreChained t) where
  -- of the jobs that wait, the others have other first records
  pub other_records : (x : Queued) (front back : List Queued) → jobs_in t ≡ front ++ x ∷ back → All (λ y. y.jct ≢ x.jct) (front ++ back)
  other_records x front back is =
      let owner = owned_by t.owners in
      let own = All-same (λ y. y.job ≡ owner y.jct) (front ++ x ∷ back) (jobs_in t) (sym is) (all_each owner (link_in t) (λ y. y.job ≡ owner y.jct) (λ place n. refl) 0 t.chains) in
      let apart = no_job_all x.job (front ++ back) (others_differ x front back (subst AreDifferentJobs is h.different)).0 in
      both (front ++ back) (without_one (λ y. y.job ≡ owner y.jct) front x back own) (the_one (λ y. y.job ≡ owner y.jct) front x back own) apart
    where
      both : (ys : List Queued) → All (λ y. y.job ≡ owned_by t.owners y.jct) ys → x.job ≡ owned_by t.owners x.jct → All (λ y. y.job ≢ x.job) ys → All (λ y. y.jct ≢ x.jct) ys
      both ys own its apart = λ k d here same. apart k d here (own k d here ∙ ap (owned_by t.owners) same ∙ sym its)

  -- the first record of one that waits is in use
  pub waits_owned : (x : Queued) → IsQueued (queue_in t) x → owner_at (queue_in t) x.jct ≢ 0
  waits_owned x own none = own.job (sym own.owner ∙ none)

  pub owned_not_free : (n : ℕ) → owner_at (queue_in t) n ≢ 0 → All (λ m. m ≢ n) (given_in t)
  owned_not_free zero some = absurd (some refl)
  owned_not_free (suc i) some =
      all_left (λ m. m ≢ suc i) (given_in t) (numbers_from (t.reached + 1) (t.layout.most_records - t.reached)) (used_not_free t h i (used_of (record_at (queue_in t) (suc i)) some))

module _ (t : Tables) (h : AreChained t) (place : ℕ) (here : place < length t.chains) (q : Queued) (class : 65 + place / 14 ≡ q.class) (priority : 13 - place % 14 ≡ q.priority)
    (own : IsQueued (queue_in t) q) (later : All (λ x. x.job < q.job) (queue_in t).waiting) where
  abbrev owner : ℕ → ℕ
  owner = owned_by t.owners

  abbrev old : Chain
  old = chain_in t place

  abbrev own_jobs : List Queued
  own_jobs = jobs_of owner (link_in t) place old

  its_job : owner q.jct ≡ q.job
  its_job = owner_there t h q.jct ∙ own.owner

  is_it : job_at owner place q.jct ≡ q
  is_it = λ j. record { job = its_job j; jct = q.jct; class = class j; priority = priority j }

  -- the chain has no record yet
  module _ (none : old.count ≡ 0) where
    abbrev alone : Chain
    alone = record { first = q.jct; last = q.jct; count = 1 }

    pushed_alone : jobs_of owner (link_in t) place alone ≡ own_jobs ++ q ∷ []
    pushed_alone = ap (λ x. x ∷ []) is_it ∙ sym (ap (λ k. map (job_at owner place) (chain (link_in t) old.first k) ++ q ∷ []) none)

    pub queue_alone : queue_in (record t { chains = slice_set t.chains place alone; waiting = t.waiting + 1 }) ≡
        record (queue_in t) { waiting = (queue_in t).waiting ++ q ∷ [] }
    queue_alone =
        at.queue_rechained t h place here alone t.records (t.waiting + 1) (λ _. Unit {0}) refl h.whole refl (λ m _. refl) (λ k d l. tt) (λ k d l. tt)
        ∙ ap (λ w. record (queue_in t) { waiting = w })
        (at.entered_is t h place here alone t.records (t.waiting + 1) (λ _. Unit {0}) refl h.whole refl (λ m _. refl) (λ k d l. tt) (λ k d l. tt) q pushed_alone (λ some. refl) refl later own)

    pub chained_alone : AreChained (record t { chains = slice_set t.chains place alone; waiting = t.waiting + 1 })
    chained_alone =
        at.chained_entered t h place here alone t.records (t.waiting + 1) (λ _. Unit {0}) refl h.whole refl (λ m _. refl) (λ k d l. tt) (λ k d l. tt) q pushed_alone (λ some. refl) refl later own

  -- it has a last one
  module _ (some : old.count ≢ 0) where
    k : ℕ
    k = old.count - 1

    count_is : old.count ≡ suc k
    unfolding k
    count_is = omega (arith, some)

    last_is : walk (link_in t) old.first k ≡ old.last
    last_is = sym (last_chain (link_in t) old.first k) ∙ ap (λ m. last_of (chain (link_in t) old.first m)) (sym count_is) ∙ h.last place some

    abbrev front : List ℕ
    front = chain (link_in t) old.first k

    chain_is : chain (link_in t) old.first old.count ≡ front ++ old.last ∷ []
    chain_is = chain_split (link_in t) old.first k 1 old.count (let c = count_is in omega (arith, c)) ∙ ap (λ m. front ++ m ∷ []) last_is

    abbrev last_job : Queued
    last_job = job_at owner place old.last

    own_is : own_jobs ≡ map (job_at owner place) front ++ last_job ∷ []
    own_is = ap (map (job_at owner place)) chain_is ∙ map-append (job_at owner place) front (old.last ∷ [])

    abbrev ahead : List Queued
    ahead = at.before t h place here ++ map (job_at owner place) front

    abbrev behind : List Queued
    behind = at.behind t h place here

    jobs_are : jobs_in t ≡ ahead ++ last_job ∷ behind
    jobs_are =
        at.split t h place here ∙ ap (λ xs. at.before t h place here ++ (xs ++ behind)) own_is
        ∙ ap (λ xs. at.before t h place here ++ xs) (append_assoc (map (job_at owner place) front) (last_job ∷ []) behind)
        ∙ sym (append_assoc (at.before t h place here) (map (job_at owner place) front) (last_job ∷ behind))

    others : All (λ y. y.jct ≢ old.last) (ahead ++ behind)
    others = other_records t h last_job ahead behind jobs_are

    pub last_owned : owner_at (queue_in t) old.last ≢ 0
    last_owned =
        waits_owned t h last_job (the_one (IsQueued (queue_in t)) ahead last_job behind (All-same (IsQueued (queue_in t)) (ahead ++ last_job ∷ behind) (jobs_in t) (sym jobs_are) (each_waits t h)))

    pub last_there : (1 ≤ old.last) × (old.last ≤ length t.owners)
    last_there = owned_place t h old.last last_owned

    pub few_before : old.count ≤ 2 ^ 16
    few_before =
        let few = few_wait t h in
        let whole = ap length (at.split t h place here) in
        let a = length-append (at.before t h place here) (own_jobs ++ behind) in
        let b = length-append own_jobs behind in
        let c = length-map (chain (link_in t) old.first old.count) (job_at owner place) in
        let d = length-chain (link_in t) old.first old.count in
        omega (arith, few, whole, a, b, c, d)

    module _ (new : List (List ℕ)) (change : Changes t.layout t.records new (old.last - 1) (record_of t.layout t.records (old.last - 1))) (link : link_at t.layout new old.last ≡ q.jct) where
      pub links : (m : ℕ) → m ≢ old.last → link_at t.layout new m ≡ link_in t m
      links zero other = refl
      links (suc i) other = change.others i (λ is. let there = last_there in other (omega (arith, is, there.0)))

      same : unlinked_all t.layout new ≡ unlinked_all t.layout t.records
      same = change.value ∙ set-get_or (unlinked_all t.layout t.records) (old.last - 1) []

      apart : All (λ x. x.jct ≢ old.last) (at.before t h place here ++ behind)
      apart =
          All-append (λ x. x.jct ≢ old.last) (at.before t h place here) behind
          (all_left (λ x. x.jct ≢ old.last) (at.before t h place here) (map (job_at owner place) front) (all_left (λ x. x.jct ≢ old.last) ahead behind others))
          (all_right (λ x. x.jct ≢ old.last) ahead behind others)

      front_apart : All (λ m. m ≢ old.last) front
      front_apart =
          chain_of_all owner (link_in t) (λ x. x.jct ≢ old.last) place old.first k
          (all_right (λ x. x.jct ≢ old.last) (at.before t h place here) (map (job_at owner place) front) (all_left (λ x. x.jct ≢ old.last) ahead behind others))

      abbrev longer : Chain
      longer = record { first = old.first; last = q.jct; count = old.count + 1 }

      pub chain_longer : chain (link_at t.layout new) old.first (old.count + 1) ≡ chain (link_in t) old.first old.count ++ q.jct ∷ []
      chain_longer =
          let two : old.count + 1 ≡ suc (suc k) = (let c = count_is in omega (arith, c)) in
          ap (chain (link_at t.layout new) old.first) two
          ∙ chain_pushed (link_in t) (link_at t.layout new) old.last links old.first k q.jct link
          (ap (λ m. last_of (chain (link_in t) old.first m)) (sym count_is) ∙ h.last place some) front_apart
          ∙ ap (λ m. chain (link_in t) old.first m ++ q.jct ∷ []) (sym count_is)

      pushed : jobs_of owner (link_at t.layout new) place longer ≡ own_jobs ++ q ∷ []
      pushed =
          ap (map (job_at owner place)) chain_longer ∙ map-append (job_at owner place) (chain (link_in t) old.first old.count) (q.jct ∷ [])
          ∙ ap (λ x. own_jobs ++ x ∷ []) is_it

      last_longer : longer.count ≢ 0 → last_of (chain (link_at t.layout new) old.first (old.count + 1)) ≡ q.jct
      last_longer more = ap last_of chain_longer ∙ last_push (chain (link_in t) old.first old.count) q.jct

      free_apart : All (λ m. m ≢ old.last) (given_in t)
      free_apart = owned_not_free t h old.last last_owned

      pub queue_longer : queue_in (record t { records = new; chains = slice_set t.chains place longer; waiting = t.waiting + 1 }) ≡
          record (queue_in t) { waiting = (queue_in t).waiting ++ q ∷ [] }
      queue_longer =
          at.queue_rechained t h place here longer new (t.waiting + 1) (λ m. m ≢ old.last) change.size (change.whole h.whole) same links apart free_apart
          ∙ ap (λ w. record (queue_in t) { waiting = w })
          (at.entered_is t h place here longer new (t.waiting + 1) (λ m. m ≢ old.last) change.size (change.whole h.whole) same links apart free_apart q pushed last_longer refl later own)

      pub chained_longer : AreChained (record t { records = new; chains = slice_set t.chains place longer; waiting = t.waiting + 1 })
      chained_longer =
          at.chained_entered t h place here longer new (t.waiting + 1) (λ m. m ≢ old.last) change.size (change.whole h.whole) same links apart free_apart q pushed last_longer refl later own
