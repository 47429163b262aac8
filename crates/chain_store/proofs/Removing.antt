-- A job that was found in its chain waits no longer.
use Rattle.std.proofs.Common.{◌≡◌, ◌≢◌, ℕ, suc, ◌+◌, ◌-◌, ◌/◌, ◌%◌, ◌<◌, ◌≤◌, List, length, arith, ◌∙◌, ap, sym, subst}
use Rattle.std.specs.Prelude.{filter, slice_index_or, slice_set}
use Rattle.std.specs.List.{Contains}
use Rattle.std.proofs.lemmas.List.{get_or_read}
use Rattle.queue_core.specs.declared.queue.Queued.{Queued}
use Rattle.queue_core.specs.Queues.{IsJobOf}
use Rattle.chain_store.specs.declared.chains.Chain.{Chain}
use Rattle.chain_store.specs.Chains.{chain, is_other, job_at, last_of, no_chain, walk}
use Rattle.chain_store.specs.Chained.{AreChained, Tables, chain_in, jobs_in, link_in, queue_in}
use Rattle.chain_store.specs.Links.{Changes, link_at, owned_by, record_of}
use Rattle.chain_store.proofs.Jobs.{length_ordered}
use Rattle.chain_store.proofs.Leaving.{chained_first_left, chained_later_left, gone_owned, queue_first_left, queue_later_left}
use Rattle.chain_store.proofs.Selecting.{found_contained}
use Rattle.chain_store.proofs.Walks.{last_chain}

-- where a record stands in a chain: so many are before it, of which this is the last
pub record Standing : Type 0 where
  pub place : ℕ
  pub before : ℕ
  pub n : ℕ

pub record IsStanding (owner link : ℕ → ℕ) (c : Chain) (job : ℕ) (found : Standing) : Type 0 where
  pub place : found.place < c.count
  pub n : walk link c.first found.place ≡ found.n
  pub of_job : owner found.n ≡ job
  pub before : last_of (chain link c.first found.place) ≡ found.before

-- a chain without one of its records
pub record IsWithout (jobs : Chain) (found : Standing) (next : ℕ) (left : Chain) : Type 0 where
  pub count : left.count + 1 ≡ jobs.count
  pub front : found.place ≡ 0 → left.first ≡ next
  pub behind : found.place ≢ 0 → left.first ≡ jobs.first
  pub end : found.place + 1 ≡ jobs.count → left.last ≡ found.before
  pub middle : found.place + 1 ≢ jobs.count → left.last ≡ jobs.last

-- where a chain has a record, a job waits
pub some_wait : (t : Tables) (h : AreChained t) (place : ℕ) → place < length t.chains → (chain_in t place).count ≢ 0 → t.waiting - 1 + 1 ≡ t.waiting
some_wait t h place here some =
    let has = found_contained t h place 0 here (omega (arith, some)) in
    let size = length_ordered (jobs_in t) in
    let is = h.waiting in
    omega (arith, has.1, size, is)

-- where a record is found that is not the first of its chain, the one before it stands in the table
module _ (t : Tables) (h : AreChained t) (place : ℕ) (here : place < length t.chains) (job : ℕ) (found : Standing) (is : IsStanding (owned_by t.owners) (link_in t) (chain_in t place) job found)
    (later : found.place ≢ 0) where
  pub ahead : ℕ
  ahead = found.place - 1

  pub ahead_is : found.place ≡ suc ahead
  unfolding ahead
  ahead_is = omega (arith, later)

  pub ahead_within : suc ahead < (chain_in t place).count
  ahead_within = let p = is.place in let e = ahead_is in omega (arith, p, e)

  pub before_is : walk (link_in t) (chain_in t place).first ahead ≡ found.before
  before_is =
      sym (last_chain (link_in t) (chain_in t place).first ahead) ∙ ap (λ k. last_of (chain (link_in t) (chain_in t place).first k)) (sym ahead_is) ∙ is.before

  pub n_behind : walk (link_in t) (chain_in t place).first (suc ahead) ≡ found.n
  n_behind = ap (walk (link_in t) (chain_in t place).first) (sym ahead_is) ∙ is.n

  pub before_place : (1 ≤ found.before) × (found.before ≤ length t.owners)
  before_place =
      gone_owned t h place here (t.waiting - 1) (some_wait t h place here (λ none. let p = is.place in absurd (omega (arith, p, none)))) ahead found.before found.n ahead_within before_is n_behind

module _ (t : Tables) (h : AreChained t) (place : ℕ) (here : place < length t.chains) (ch : Chain) (read : ch ≡ slice_index_or t.chains place ch) (job : ℕ) (found : Standing)
    (is : IsStanding (owned_by t.owners) (link_in t) (chain_in t place) job found) where
  abbrev old : Chain
  old = chain_in t place

  pub is_read : ch ≡ old
  is_read = get_or_read t.chains place ch here read no_chain

  pub fewer : t.waiting - 1 + 1 ≡ t.waiting
  fewer = some_wait t h place here (λ none. let p = is.place in absurd (omega (arith, p, none)))

  pub is_job_of : (q : Queued) → q.job ≡ job → q.jct ≡ found.n → q.class ≡ 65 + place / 14 → q.priority ≡ 13 - place % 14 → IsJobOf (queue_in t).waiting job q
  is_job_of q its_job jct class priority =
      let same : job_at (owned_by t.owners) place (walk (link_in t) old.first found.place) ≡ q =
      (λ j. record {
        job = (ap (owned_by t.owners) is.n ∙ is.of_job ∙ sym its_job) j;
        jct = (is.n ∙ sym jct) j;
        class = (sym class) j;
        priority = (sym priority) j;
      }) in
      (subst (Contains (queue_in t).waiting) same (found_contained t h place found.place here is.place), its_job)

  module _ (next : ℕ) (next_is : next ≡ link_in t found.n) (left : Chain) (facts : IsWithout ch found next left) where
    of_old : IsWithout old found next left
    of_old = subst (λ x. IsWithout x found next left) is_read facts

    -- the first
    module _ (first : found.place ≡ 0) where
      n_is : old.first ≡ found.n
      n_is = sym (ap (walk (link_in t) old.first) first) ∙ is.n

      leads : left.first ≡ link_in t old.first
      leads = of_old.front first ∙ next_is ∙ ap (link_in t) (sym n_is)

      last_stays : 1 ≢ old.count → left.last ≡ old.last
      last_stays more = of_old.middle (λ e. more (omega (arith, e, first)))

      pub chained_without_first : AreChained (record t { chains = slice_set t.chains place left; waiting = t.waiting - 1 })
      chained_without_first = chained_first_left t h place here (t.waiting - 1) fewer left leads of_old.count last_stays

      pub queue_without_first : queue_in (record t { chains = slice_set t.chains place left; waiting = t.waiting - 1 }) ≡
          record (queue_in t) { waiting = filter (is_other job) (queue_in t).waiting }
      queue_without_first =
          queue_first_left t h place here (t.waiting - 1) fewer left leads of_old.count last_stays
          ∙ ap (λ j. record (queue_in t) { waiting = filter (is_other j) (queue_in t).waiting }) (ap (owned_by t.owners) n_is ∙ is.of_job)

    -- a later one
    module _ (later : found.place ≢ 0) where
      module _ (new : List (List ℕ)) (change : Changes t.layout t.records new (found.before - 1) (record_of t.layout t.records (found.before - 1)))
          (link : link_at t.layout new found.before ≡ next) where
        at_end : suc (suc (ahead t h place here job found is later)) ≡ old.count → left.last ≡ found.before
        at_end e = of_old.end (let p = ahead_is t h place here job found is later in omega (arith, e, p))

        in_middle : suc (suc (ahead t h place here job found is later)) ≢ old.count → left.last ≡ old.last
        in_middle more = of_old.middle (λ e. more (let p = ahead_is t h place here job found is later in omega (arith, e, p)))

        pub chained_without_later : AreChained (record t { records = new; chains = slice_set t.chains place left; waiting = t.waiting - 1 })
        chained_without_later =
            chained_later_left t h place here (t.waiting - 1) fewer (ahead t h place here job found is later) found.before found.n (ahead_within t h place here job found is later) (before_is t h place here job found is later)
            (n_behind t h place here job found is later) new change (link ∙ next_is) left (of_old.behind later) of_old.count at_end
            in_middle

        pub queue_without_later : queue_in (record t { records = new; chains = slice_set t.chains place left; waiting = t.waiting - 1 }) ≡
            record (queue_in t) { waiting = filter (is_other job) (queue_in t).waiting }
        queue_without_later =
            queue_later_left t h place here (t.waiting - 1) fewer (ahead t h place here job found is later) found.before found.n (ahead_within t h place here job found is later) (before_is t h place here job found is later)
            (n_behind t h place here job found is later) new change (link ∙ next_is) left (of_old.behind later) of_old.count at_end
            in_middle
            ∙ ap (λ j. record (queue_in t) { waiting = filter (is_other j) (queue_in t).waiting }) is.of_job
