-- The records of a job, as they are given back.
use Rattle.std.proofs.Common.{◌≡◌, ◌≢◌, ℕ, zero, suc, ◌+◌, ◌<◌, ◌==◌, Bool, true, false, cond, ◌||◌, List, [], ◌∷◌, ◌++◌, length, get_or, map, Option, None, arith, ap, ◌∙◌, sym, refl}
use Rattle.std.specs.List.{filter, list_any}
use Rattle.std.proofs.lemmas.Bool.{both_ways, eq-eqb, eqb-true, or_left, or_right}
use Rattle.cb_meaning.specs.declared.layout.Layout.{Layout}
use Rattle.cb_meaning.specs.Walks.{is_free, owner_of}
use Rattle.cb_queue.specs.RecordQueues.{IsSoundQueue, RecordQueue, ShowsRecords, all_given_back, bytes_or_zeros, numbers_of, owner_in, record_at, shown, unless_of}
use Rattle.world_meaning.specs.Records.{AgreeBut, records_given_back, open_fields, owned_by}
use Rattle.queued_job.specs.Releases.{Releases}
use Rattle.plain.specs.Lists.{numbers_from}

-- the numbers of an owner's records, by what is told of each
numbers_told : (owner : ℕ → ℕ) (job k : ℕ) (records : List (Option (List ℕ))) → ((i : ℕ) → i < length records → owner (k + i) ≡ owner_in (get_or records i None)) →
    numbers_of job k records ≡ filter (λ n. owner n == job) (numbers_from k (length records))
numbers_told owner job k [] told = refl
numbers_told owner job k (r ∷ records) told = here ∙ ap (λ xs. cond (owner k == job) (k ∷ xs) xs) (numbers_told owner job (k + 1) records behind)
  where
    first : owner k ≡ owner_in r
    first = let same : k + 0 ≡ k = omega arith in ap owner (sym same) ∙ told 0 (omega arith)

    behind : (i : ℕ) → i < length records → owner (k + 1 + i) ≡ owner_in (get_or records i None)
    behind i h = let same : k + suc i ≡ k + 1 + i = omega arith in ap owner (sym same) ∙ told (suc i) (omega (arith, h))

    here : cond (owner_in r == job) (k ∷ numbers_of job (k + 1) records) (numbers_of job (k + 1) records)
        ≡ cond (owner k == job) (k ∷ numbers_of job (k + 1) records) (numbers_of job (k + 1) records)
    here = ap (λ o. cond (o == job) (k ∷ numbers_of job (k + 1) records) (numbers_of job (k + 1) records)) (sym first)

-- what is in a list is in a longer one
any_left : (n : ℕ) (xs ys : List ℕ) → list_any (λ f. f == n) xs ≡ true → list_any (λ f. f == n) (xs ++ ys) ≡ true
any_left n [] ys e = cc
any_left n (x ∷ xs) ys e = by (x == n) e (any_left n xs ys)
  where
    by : (b : Bool) → (b || list_any (λ f. f == n) xs) ≡ true → (list_any (λ f. f == n) xs ≡ true → list_any (λ f. f == n) (xs ++ ys) ≡ true) →
        (b || list_any (λ f. f == n) (xs ++ ys)) ≡ true
    by true e rest = refl
    by false e rest = rest e

-- the same bytes agree
pub agrees : (l : Layout) (r s : List ℕ) → s ≡ r → AgreeBut (open_fields l r) r s
agrees l r s e = record { size = ap length e; bytes = λ k out. ap (λ x. get_or x k 0) e }

nothing : (b : Bool) (o : Option (List ℕ)) → o ≡ None → o ≡ cond b None o
nothing true o e = e
nothing false o e = refl

module _ (shows : ShowsRecords) (q : RecordQueue) (job : ℕ) (sound : IsSoundQueue q) (some : job ≢ 0) where
  owned_are : numbers_of job 1 q.records ≡ owned_by q.layout (shown q) job
  owned_are =
      numbers_told (owner_of (shown q)) job 1 q.records at
      ∙ ap (λ count. filter (λ n. owner_of (shown q) n == job) (numbers_from 1 count)) sound.size
    where
      at : (i : ℕ) → i < length q.records → owner_of (shown q) (1 + i) ≡ owner_in (get_or q.records i None)
      at i h = let same : 1 + i ≡ suc i = omega arith in ap (owner_of (shown q)) same ∙ (shows q sound (suc i)).owner

  -- a record in the list of an owner's
  among : (k i : ℕ) (records : List (Option (List ℕ))) → i < length records → owner_in (get_or records i None) ≡ job →
      list_any (λ f. f == k + i) (numbers_of job k records) ≡ true
  among k i [] h is = absurd (omega (arith, h))
  among k zero (r ∷ records) h is =
      let same : k + 0 ≡ k = omega arith in
      ap (λ b. list_any (λ f. f == k + 0) (cond b (k ∷ numbers_of job (k + 1) records) (numbers_of job (k + 1) records))) (eq-eqb (owner_in r) job is)
      ∙ or_left (k == k + 0) (list_any (λ f. f == k + 0) (numbers_of job (k + 1) records)) (eq-eqb k (k + 0) (sym same))
  among k (suc i) (r ∷ records) h is =
      let same : k + 1 + i ≡ k + suc i = omega arith in
      kept (owner_in r == job) (sym (ap (λ n. list_any (λ f. f == n) (numbers_of job (k + 1) records)) same) ∙ among (k + 1) i records (omega (arith, h)) is)
    where
      kept : (b : Bool) → list_any (λ f. f == k + suc i) (numbers_of job (k + 1) records) ≡ true →
          list_any (λ f. f == k + suc i) (cond b (k ∷ numbers_of job (k + 1) records) (numbers_of job (k + 1) records)) ≡ true
      kept true behind = or_right (k == k + suc i) (list_any (λ f. f == k + suc i) (numbers_of job (k + 1) records)) behind
      kept false behind = behind

  unless_at : (i : ℕ) (records : List (Option (List ℕ))) → get_or (map (unless_of job) records) i None ≡ unless_of job (get_or records i None)
  unless_at i [] = nothing (0 == job) None refl
  unless_at zero (r ∷ records) = refl
  unless_at (suc i) (r ∷ records) = unless_at i records

  -- where there is an owner, the list reaches
  reaches : (i : ℕ) (records : List (Option (List ℕ))) → owner_in (get_or records i None) ≢ 0 → i < length records
  reaches i [] h = absurd (h refl)
  reaches zero (r ∷ records) h = omega arith
  reaches (suc i) (r ∷ records) h = let rest = reaches i records h in omega (arith, rest)

  freed : (n : ℕ) → list_any (λ f. f == n) (numbers_of job 1 q.records) ≡ true → is_free (records_given_back q.layout (shown q) job) n ≡ true
  freed n h = ap (λ xs. list_any (λ f. f == n) (xs ++ q.free)) (sym owned_are) ∙ any_left n (numbers_of job 1 q.records) q.free h

  kept : (n : ℕ) → is_free (records_given_back q.layout (shown q) job) n ≡ false → record_at (all_given_back q job) n ≡ record_at q n
  kept zero used = refl
  kept (suc i) used = unless_at i q.records ∙ by (owner_in (get_or q.records i None) == job) refl
    where
      by : (b : Bool) → (owner_in (get_or q.records i None) == job) ≡ b → cond b None (get_or q.records i None) ≡ get_or q.records i None
      by true e =
          let is : owner_in (get_or q.records i None) ≡ job = eqb-true (owner_in (get_or q.records i None)) job e in
          let here : i < length q.records = reaches i q.records (λ none. some (sym is ∙ none)) in
          let same : 1 + i ≡ suc i = omega arith in
          absurd (both_ways (is_free (records_given_back q.layout (shown q) job) (suc i)) used
          (freed (suc i) (ap (λ n. list_any (λ f. f == n) (numbers_of job 1 q.records)) (sym same) ∙ among 1 i q.records here is)))
      by false e = refl

  pub released : Releases job q (all_given_back q job)
  released = record {
    records = record {
      free = ap (λ xs. xs ++ q.free) owned_are;
      used = λ n used. agrees q.layout ((shown q).at n) ((shown (all_given_back q job)).at n) (ap bytes_or_zeros (kept n used));
    };
    layout = refl;
    waiting = refl;
  }
