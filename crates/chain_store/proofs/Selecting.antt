-- The job of a class that is selected next is the first of a chain.
use Rattle.std.proofs.Common.{◌≡◌, ◌≢◌, ℕ, suc, ◌+◌, ◌-◌, ◌/◌, ◌%◌, ◌<◌, ◌≤◌, List, [], ◌∷◌, All, length, map, arith, ◌∙◌, ap, sym, refl, subst, inl, inr, ◌⊎◌}
use Rattle.std.specs.List.{Contains}
use Rattle.std.proofs.lemmas.Bool.{cases_eq, cases_lt}
use Rattle.std.proofs.lemmas.List.Elements.{All-cons, All-contains, All-contains_itself, All-head, All-nil, All-tail, All-weaker}
use Rattle.queue_core.specs.declared.queue.Queued.{Queued}
use Rattle.queue_core.specs.Queues.{HasNoneOf, IsFirstOf}
use Rattle.cb_queue.specs.RecordQueues.{AreInOrder, IsQueued}
use Rattle.chain_store.specs.Chains.{AreEmpty, AreThere, IsFirstUsed, chain, job_at, jobs_of, ordered, walk}
use Rattle.chain_store.specs.Chained.{AreChained, Tables, chain_in, chained_in, jobs_in, link_in, queue_in}
use Rattle.chain_store.specs.Links.{owned_by}
use Rattle.chain_store.proofs.AllJobs.{all_chains, all_of_chain, all_of_place, chain_of_all, of_all_chains}
use Rattle.chain_store.proofs.Entering.{waits_owned}
use Rattle.chain_store.proofs.Jobs.{all_ordered, all_unordered, length_ordered}
use Rattle.chain_store.proofs.Ops.{owned_place}
use Rattle.chain_store.proofs.Walks.{at_walk}

pub nothing : {A : Type 0} (P : A → Type 0) (xs : List A) → length xs ≡ 0 → All P xs
nothing P [] none = All-nil P
nothing P (x ∷ xs) none = absurd (omega (arith, none))

module _ (t : Tables) (h : AreChained t) where
  abbrev owner : ℕ → ℕ
  owner = owned_by t.owners

  abbrev link : ℕ → ℕ
  link = link_in t

  abbrev own_jobs : ℕ → List Queued
  own_jobs place = jobs_of owner link place (chain_in t place)

  -- a chain without a record has no job, and one with records a first
  pub none_of : (P : Queued → Type 0) (place : ℕ) → (chain_in t place).count ≡ 0 → All P (own_jobs place)
  none_of P place none = subst (λ k. All P (map (job_at owner place) (chain link (chain_in t place).first k))) (sym none) (All-nil P)

  pub first_is : (place : ℕ) → (chain_in t place).count ≢ 0 →
      own_jobs place ≡ job_at owner place (chain_in t place).first ∷ map (job_at owner place) (chain link (link (chain_in t place).first) ((chain_in t place).count - 1))
  first_is place some =
      let more : (chain_in t place).count ≡ suc ((chain_in t place).count - 1) = omega (arith, some) in
      ap (λ k. map (job_at owner place) (chain link (chain_in t place).first k)) more

  -- what holds of all that wait, by their chains
  pub all_waiting : (P : Queued → Type 0) → ((place : ℕ) → place < length t.chains → All P (own_jobs place)) → All P (queue_in t).waiting
  all_waiting P each =
      all_ordered P (jobs_in t) (all_chains owner link P 0 t.chains
      (λ i k here is. let same : i ≡ k = omega (arith, is) in subst (λ m. All P (jobs_of owner link m (chain_in t i))) same (each i here)))

  pub of_waiting : (P : Queued → Type 0) → All P (queue_in t).waiting → (place : ℕ) → place < length t.chains → All P (own_jobs place)
  of_waiting P all place here = of_all_chains owner link P 0 t.chains (all_unordered P (jobs_in t) all) place place here (omega arith)

  pub contained : (place : ℕ) → place < length t.chains → All (Contains (queue_in t).waiting) (own_jobs place)
  contained place here = of_waiting (Contains (queue_in t).waiting) (All-contains_itself (queue_in t).waiting) place here

  pub first_contained : (place : ℕ) → place < length t.chains → (chain_in t place).count ≢ 0 → Contains (queue_in t).waiting (job_at owner place (chain_in t place).first)
  first_contained place here some =
      All-head (Contains (queue_in t).waiting) (job_at owner place (chain_in t place).first)
      (map (job_at owner place) (chain link (link (chain_in t place).first) ((chain_in t place).count - 1)))
      (subst (All (Contains (queue_in t).waiting)) (first_is place some) (contained place here))

  -- the first records of those that wait stand in the table
  pub there_of : (place : ℕ) → place < length t.chains → AreThere (length t.owners) (chain link (chain_in t place).first (chain_in t place).count)
  there_of place here =
      chain_of_all owner link (λ x. (1 ≤ x.jct) × (x.jct ≤ length t.owners)) place (chain_in t place).first (chain_in t place).count
      (All-weaker (IsQueued (queue_in t)) (λ x. (1 ≤ x.jct) × (x.jct ≤ length t.owners)) (λ x own. owned_place t h x.jct (waits_owned t h x own)) (own_jobs place)
      (of_waiting (IsQueued (queue_in t)) h.sound.queued place here))

  pub first_there : (place : ℕ) → place < length t.chains → (chain_in t place).count ≢ 0 → (1 ≤ (chain_in t place).first) × ((chain_in t place).first ≤ length t.owners)
  first_there place here some = at_walk (λ n. (1 ≤ n) × (n ≤ length t.owners)) link (chain_in t place).first (chain_in t place).count 0 (omega (arith, some)) (there_of place here)

  -- no job of a class waits
  pub none_waits : (class : ℕ) → t.waiting ≡ 0 → HasNoneOf (queue_in t).waiting class
  none_waits class none = nothing (λ x. x.class ≢ class) (ordered (jobs_in t)) (length_ordered (jobs_in t) ∙ sym h.waiting ∙ none)

  pub no_class : (class : ℕ) → (class < 65) ⊎ (79 < class) → HasNoneOf (queue_in t).waiting class
  no_class class out =
      All-weaker (IsQueued (queue_in t)) (λ x. x.class ≢ class)
      (λ x own is. elim out [ inl low ↦ (let low_class = own.class.0 in absurd (omega (arith, low, low_class, is))) | inr high ↦ (let high_class = own.class.1 in absurd (omega (arith, high, high_class, is))) ])
      (queue_in t).waiting h.sound.queued

  module _ (class from : ℕ) (begins : 65 + from / 14 ≡ class) (highest : from % 14 ≡ 0) where
    pub none_of_class : AreEmpty t.chains from (from + 14) → HasNoneOf (queue_in t).waiting class
    none_of_class empty = all_waiting (λ x. x.class ≢ class) each
      where
        each : (place : ℕ) → place < length t.chains → All (λ x. x.class ≢ class) (own_jobs place)
        each place here =
            elim (cases_eq (65 + place / 14) class) [
              | inl is ↦ none_of (λ x. x.class ≢ class) place (empty place (omega (arith, is, begins, highest)) (omega (arith, is, begins, highest)))
              | inr other ↦ all_of_place owner link (λ x. x.class ≢ class) place (chain_in t place).first (chain_in t place).count (λ m. other)
            ]

    module _ (place : ℕ) (here : place < length t.chains) (used : IsFirstUsed t.chains from place) (q : Queued) (is : q ≡ job_at owner place (chain_in t place).first) where
      abbrev Fits : Queued → Type 0
      Fits x = x.class ≡ class → (x.priority ≤ q.priority) × (x.priority ≡ q.priority → q.job ≤ x.job)

      its_priority : q.priority ≡ 13 - place % 14
      its_priority = ap (λ (x : Queued). x.priority) is

      first_fits : All Fits (own_jobs place)
      first_fits =
          let order = subst AreInOrder (first_is place used.used) (h.in_order place) in
          let rest = map (job_at owner place) (chain link (link (chain_in t place).first) ((chain_in t place).count - 1)) in
          let job : q.job ≡ owner (chain_in t place).first = ap (λ (x : Queued). x.job) is in
          subst (All Fits) (sym (first_is place used.used))
          (All-cons Fits (job_at owner place (chain_in t place).first) rest (λ same. (omega (arith, its_priority), λ equal. omega (arith, job)))
          (both rest (All-weaker (λ y. owner (chain_in t place).first < y.job) (λ y. q.job ≤ y.job) (λ y less. omega (arith, less, job)) rest order.0)
          (all_of_place owner link (λ x. x.priority ≡ q.priority) place (link (chain_in t place).first) ((chain_in t place).count - 1) (λ m. sym its_priority))))
        where
          both : (ys : List Queued) → All (λ y. q.job ≤ y.job) ys → All (λ y. y.priority ≡ q.priority) ys → All Fits ys
          both [] a b = All-nil Fits
          both (y ∷ ys) a b =
              let equal = All-head (λ y. y.priority ≡ q.priority) y ys b in
              All-cons Fits y ys (λ same. (omega (arith, equal), λ e. All-head (λ y. q.job ≤ y.job) y ys a))
              (both ys (All-tail (λ y. q.job ≤ y.job) y ys a) (All-tail (λ y. y.priority ≡ q.priority) y ys b))

      each_fits : (p : ℕ) → p < length t.chains → All Fits (own_jobs p)
      each_fits p there =
          elim (cases_eq (65 + p / 14) class) [
            | inl same ↦
                elim (cases_lt p place) [
                  | inl before ↦ none_of Fits p (used.before p (omega (arith, same, begins, highest)) before)
                  | inr after ↦
                      elim (cases_eq p place) [
                        | inl it ↦ subst (λ k. All Fits (own_jobs k)) (sym it) first_fits
                        | inr other ↦
                            (let within = used.within in
                            let from_first = used.after in
                            all_of_place owner link Fits p (chain_in t p).first (chain_in t p).count
                            (λ m _. (
                              omega (arith, its_priority, same, begins, highest, after, within, from_first),
                              λ equal. absurd (omega (arith, its_priority, equal, same, begins, highest, after, other, within, from_first)),
                            )))
                      ]
                ]
            | inr other ↦ all_of_place owner link Fits p (chain_in t p).first (chain_in t p).count (λ m same. absurd (other same))
          ]

      pub is_first : IsFirstOf (queue_in t).waiting class q
      is_first =
          let all = all_waiting Fits each_fits in
          let within = used.within in
          let after = used.after in
          record {
            contained = subst (Contains (queue_in t).waiting) (sym is) (first_contained place here used.used);
            of_class = ap (λ (x : Queued). x.class) is ∙ omega (arith, begins, highest, within, after);
            highest = All-weaker Fits (λ x. x.class ≡ class → x.priority ≤ q.priority) (λ x fits same. (fits same).0) (queue_in t).waiting all;
            earliest = All-weaker Fits (λ x. x.class ≡ class → x.priority ≡ q.priority → q.job ≤ x.job) (λ x fits same equal. (fits same).1 equal) (queue_in t).waiting all;
          }

  -- the job that is selected next is the first of its chain
  module _ (q : Queued) (place : ℕ) (here : place < length t.chains) (class : 65 + place / 14 ≡ q.class) (priority : 13 - place % 14 ≡ q.priority)
      (first : IsFirstOf (queue_in t).waiting q.class q) where
    abbrev IsHead : Type 0
    IsHead = ((chain_in t place).count ≢ 0) × (owner (chain_in t place).first ≡ q.job)

    abbrev Leads : Queued → Type 0
    Leads x = x.class ≡ q.class → x.priority ≡ q.priority → x.job ≡ q.job → IsHead

    head_late : (chain_in t place).count ≢ 0 → q.job ≤ owner (chain_in t place).first
    head_late some = All-contains (λ x. x.class ≡ q.class → x.priority ≡ q.priority → q.job ≤ x.job) (queue_in t).waiting (job_at owner place (chain_in t place).first) first.earliest
        (first_contained place here some) class priority

    own_leads : All Leads (own_jobs place)
    own_leads =
        elim (cases_eq (chain_in t place).count 0) [
          | inl none ↦ none_of Leads place none
          | inr some ↦
              (let order = subst AreInOrder (first_is place some) (h.in_order place) in
              let rest = map (job_at owner place) (chain link (link (chain_in t place).first) ((chain_in t place).count - 1)) in
              let late = head_late some in
              subst (All Leads) (sym (first_is place some))
              (All-cons Leads (job_at owner place (chain_in t place).first) rest (λ a b same. (some, same))
              (All-weaker (λ y. owner (chain_in t place).first < y.job) Leads (λ y less a b same. absurd (omega (arith, less, late, same))) rest order.0)))
        ]

    each_leads : (p : ℕ) → p < length t.chains → All Leads (own_jobs p)
    each_leads p there =
        elim (cases_eq p place) [
          | inl it ↦ subst (λ k. All Leads (own_jobs k)) (sym it) own_leads
          | inr other ↦
              all_of_place owner link Leads p (chain_in t p).first (chain_in t p).count (λ m a b same. absurd (omega (arith, a, b, class, priority, other)))
        ]

    pub leads : IsHead
    leads = All-contains Leads (queue_in t).waiting q (all_waiting Leads each_leads) first.contained refl refl refl

  -- no job of a number waits
  pub none_found : (job : ℕ) → ((place : ℕ) → place < length t.chains → All (λ n. owner n ≢ job) (chained_in t place)) → All (λ x. x.job ≢ job) (queue_in t).waiting
  none_found job none =
      all_waiting (λ x. x.job ≢ job) (λ place here. all_of_chain owner link (λ x. x.job ≢ job) place (chain_in t place).first (chain_in t place).count (none place here))

  pub found_contained : (place p : ℕ) → place < length t.chains → p < (chain_in t place).count → Contains (queue_in t).waiting (job_at owner place (walk link (chain_in t place).first p))
  found_contained place p here within =
      at_walk (λ n. Contains (queue_in t).waiting (job_at owner place n)) link (chain_in t place).first (chain_in t place).count p within
      (chain_of_all owner link (Contains (queue_in t).waiting) place (chain_in t place).first (chain_in t place).count (contained place here))
