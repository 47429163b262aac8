-- The jobs of all chains.
use Rattle.std.proofs.Common.{◌≡◌, ℕ, zero, suc, ◌+◌, ◌-◌, ◌/◌, ◌%◌, ◌<◌, List, [], ◌∷◌, ◌++◌, All, get_or, drop, length, map, take, arith, ◌∙◌, ap, sym, refl, subst}
use Rattle.std.specs.Prelude.{slice_set}
use Rattle.std.proofs.lemmas.List.{append_assoc, set-get_or}
use Rattle.std.proofs.lemmas.List.Elements.{All-append, All-cons, All-head, All-nil, All-tail}
use Rattle.queue_core.specs.declared.queue.Queued.{Queued}
use Rattle.chain_store.specs.declared.chains.Chain.{Chain}
use Rattle.chain_store.specs.Chains.{all_jobs, chain, job_at, jobs_of, no_chain}
use Rattle.chain_store.proofs.Jobs.{all_left, all_right}

-- what holds of each job, by its chain
pub all_of_chain : (owner link : ℕ → ℕ) (P : Queued → Type 0) (place n count : ℕ) → All (λ m. P (job_at owner place m)) (chain link n count) →
    All P (map (job_at owner place) (chain link n count))
all_of_chain owner link P place n zero all = All-nil P
all_of_chain owner link P place n (suc count) all =
    let rest = chain link (link n) count in
    All-cons P (job_at owner place n) (map (job_at owner place) rest) (All-head (λ m. P (job_at owner place m)) n rest all)
    (all_of_chain owner link P place (link n) count (All-tail (λ m. P (job_at owner place m)) n rest all))

pub chain_of_all : (owner link : ℕ → ℕ) (P : Queued → Type 0) (place n count : ℕ) → All P (map (job_at owner place) (chain link n count)) →
    All (λ m. P (job_at owner place m)) (chain link n count)
chain_of_all owner link P place n zero all = All-nil (λ m. P (job_at owner place m))
chain_of_all owner link P place n (suc count) all =
    let rest = chain link (link n) count in
    All-cons (λ m. P (job_at owner place m)) n rest (All-head P (job_at owner place n) (map (job_at owner place) rest) all)
    (chain_of_all owner link P place (link n) count (All-tail P (job_at owner place n) (map (job_at owner place) rest) all))

-- what holds of any job of a chain
pub all_of_place : (owner link : ℕ → ℕ) (P : Queued → Type 0) (place n count : ℕ) → ((m : ℕ) → P (job_at owner place m)) → All P (map (job_at owner place) (chain link n count))
all_of_place owner link P place n zero each = All-nil P
all_of_place owner link P place n (suc count) each =
    All-cons P (job_at owner place n) (map (job_at owner place) (chain link (link n) count)) (each n) (all_of_place owner link P place (link n) count each)

pub all_each : (owner link : ℕ → ℕ) (P : Queued → Type 0) → ((place n : ℕ) → P (job_at owner place n)) → (place : ℕ) (cs : List Chain) → All P (all_jobs owner link place cs)
all_each owner link P each place [] = All-nil P
all_each owner link P each place (c ∷ cs) =
    All-append P (jobs_of owner link place c) (all_jobs owner link (place + 1) cs) (all_of_place owner link P place c.first c.count (each place))
    (all_each owner link P each (place + 1) cs)

pub all_chains : (owner link : ℕ → ℕ) (P : Queued → Type 0) (place : ℕ) (cs : List Chain) →
    ((i k : ℕ) → i < length cs → k ≡ place + i → All P (jobs_of owner link k (get_or cs i no_chain))) → All P (all_jobs owner link place cs)
all_chains owner link P place [] each = All-nil P
all_chains owner link P place (c ∷ cs) each =
    All-append P (jobs_of owner link place c) (all_jobs owner link (place + 1) cs) (each 0 place (omega arith) (omega arith))
    (all_chains owner link P (place + 1) cs (λ i k here is. each (suc i) k (omega (arith, here)) (omega (arith, is))))

pub of_all_chains : (owner link : ℕ → ℕ) (P : Queued → Type 0) (place : ℕ) (cs : List Chain) → All P (all_jobs owner link place cs) →
    (i k : ℕ) → i < length cs → k ≡ place + i → All P (jobs_of owner link k (get_or cs i no_chain))
of_all_chains owner link P place [] all i k here is = absurd (omega (arith, here))
of_all_chains owner link P place (c ∷ cs) all zero k here is =
    let at : place ≡ k = omega (arith, is) in
    subst (λ p. All P (jobs_of owner link p c)) at (all_left P (jobs_of owner link place c) (all_jobs owner link (place + 1) cs) all)
of_all_chains owner link P place (c ∷ cs) all (suc i) k here is =
    of_all_chains owner link P (place + 1) cs (all_right P (jobs_of owner link place c) (all_jobs owner link (place + 1) cs) all) i k
    (omega (arith, here)) (omega (arith, is))

-- those before the chain at a place, its own, and those behind
abbrev pub before_chain : (ℕ → ℕ) → (ℕ → ℕ) → List Chain → ℕ → List Queued
before_chain owner link cs i = all_jobs owner link 0 (take i cs)

abbrev pub behind_chain : (ℕ → ℕ) → (ℕ → ℕ) → List Chain → ℕ → List Queued
behind_chain owner link cs i = all_jobs owner link (i + 1) (drop (suc i) cs)

split_set : (owner link : ℕ → ℕ) (place : ℕ) (cs : List Chain) (c : Chain) (i k : ℕ) → i < length cs → k ≡ place + i →
    all_jobs owner link place (slice_set cs i c) ≡ all_jobs owner link place (take i cs) ++ (jobs_of owner link k c ++ all_jobs owner link (k + 1) (drop (suc i) cs))
split_set owner link place [] c i k here is = absurd (omega (arith, here))
split_set owner link place (x ∷ cs) c zero k here is =
    let at : place ≡ k = omega (arith, is) in
    ap (λ p. jobs_of owner link p c ++ all_jobs owner link (p + 1) cs) at
split_set owner link place (x ∷ cs) c (suc i) k here is =
    ap (λ xs. jobs_of owner link place x ++ xs) (split_set owner link (place + 1) cs c i k (omega (arith, here)) (omega (arith, is)))
    ∙ sym (append_assoc (jobs_of owner link place x) (all_jobs owner link (place + 1) (take i cs)) (jobs_of owner link k c ++ all_jobs owner link (k + 1) (drop (suc i) cs)))

pub jobs_set : (owner link : ℕ → ℕ) (cs : List Chain) (c : Chain) (i : ℕ) → i < length cs →
    all_jobs owner link 0 (slice_set cs i c) ≡ before_chain owner link cs i ++ (jobs_of owner link i c ++ behind_chain owner link cs i)
jobs_set owner link cs c i here = split_set owner link 0 cs c i i here (omega arith)

pub jobs_split : (owner link : ℕ → ℕ) (cs : List Chain) (i : ℕ) → i < length cs →
    all_jobs owner link 0 cs ≡ before_chain owner link cs i ++ (jobs_of owner link i (get_or cs i no_chain) ++ behind_chain owner link cs i)
jobs_split owner link cs i here = ap (all_jobs owner link 0) (sym (set-get_or cs i no_chain)) ∙ jobs_set owner link cs (get_or cs i no_chain) i here

-- owners and links of some records are as before
module _ (owner link owner' link' : ℕ → ℕ) (P : ℕ → Type 0) (owners : (m : ℕ) → P m → owner' m ≡ owner m) (links : (m : ℕ) → P m → link' m ≡ link m) where
  pub of_same : (place n count : ℕ) → All (λ x. P x.jct) (map (job_at owner place) (chain link n count)) →
      map (job_at owner' place) (chain link' n count) ≡ map (job_at owner place) (chain link n count)
  of_same place n zero all = refl
  of_same place n (suc count) all =
      let rest = map (job_at owner place) (chain link (link n) count) in
      let other : P n = All-head (λ x. P x.jct) (job_at owner place n) rest all in
      ap (λ job. record { job = job; jct = n; class = 65 + place / 14; priority = 13 - place % 14 } ∷ map (job_at owner' place) (chain link' (link' n) count)) (owners n other)
      ∙ ap (λ xs. job_at owner place n ∷ xs)
      (ap (λ m. map (job_at owner' place) (chain link' m count)) (links n other)
      ∙ of_same place (link n) count (All-tail (λ x. P x.jct) (job_at owner place n) rest all))

  pub jobs_same : (place : ℕ) (cs : List Chain) → All (λ x. P x.jct) (all_jobs owner link place cs) → all_jobs owner' link' place cs ≡ all_jobs owner link place cs
  jobs_same place [] all = refl
  jobs_same place (c ∷ cs) all =
      let first = all_left (λ x. P x.jct) (jobs_of owner link place c) (all_jobs owner link (place + 1) cs) all in
      let rest = all_right (λ x. P x.jct) (jobs_of owner link place c) (all_jobs owner link (place + 1) cs) all in
      ap (λ xs. xs ++ all_jobs owner' link' (place + 1) cs) (of_same place c.first c.count first)
      ∙ ap (λ xs. jobs_of owner link place c ++ xs) (jobs_same (place + 1) cs rest)
