-- The records of an owner, given back one after another.
use Rattle.std.proofs.Common.{◌≡◌, ◌≢◌, ℕ, zero, suc, ◌+◌, ◌<◌, ◌≤◌, ◌==◌, Bool, true, false, cond, List, [], ◌∷◌, ◌++◌, length, get_or, map, take, drop, Option, None, arith, ◌∙◌, ap, sym, refl, subst}
use Rattle.std.specs.Prelude.{slice_set}
use Rattle.std.proofs.lemmas.Bool.{eq-eqb, ne_eqb}
use Rattle.std.proofs.lemmas.List.{append-nil, append_assoc, drop_all, drop_more, get_or_at, length-take-le, set_at, take_all, take_more}
use Rattle.cb_queue.specs.RecordQueues.{HasNoneBetween, RecordQueue, all_given_back, given_back, numbers_of, owner_at, owner_in, unless_of}

-- those above record n are given back
abbrev pub given_above : RecordQueue → ℕ → ℕ → RecordQueue
given_above q owner n = record q {
  records = take n q.records ++ map (unless_of owner) (drop n q.records);
  free = numbers_of owner (n + 1) (drop n q.records) ++ q.free;
}

module _ (q : RecordQueue) (owner : ℕ) where
  queue_is : (records records' : List (Option (List ℕ))) (free free' : List ℕ) → records ≡ records' → free ≡ free' →
      record q { records = records; free = free } ≡ record q { records = records'; free = free' }
  queue_is records records' free free' e f = λ i. record q { records = e i; free = f i }

  pub none_given : (n : ℕ) → length q.records ≤ n → q ≡ given_above q owner n
  none_given n h =
      queue_is q.records (take n q.records ++ map (unless_of owner) (drop n q.records)) q.free (numbers_of owner (n + 1) (drop n q.records) ++ q.free)
      (sym (ap (λ xs. take n q.records ++ map (unless_of owner) xs) (drop_all n q.records h) ∙ append-nil (take n q.records) ∙ take_all n q.records h))
      (sym (ap (λ xs. numbers_of owner (n + 1) xs ++ q.free) (drop_all n q.records h)))

  pub all_given : given_above q owner 0 ≡ all_given_back q owner
  all_given = refl

  module _ (i : ℕ) (here : i < length q.records) where
    abbrev it : Option (List ℕ)
    it = get_or q.records i None

    abbrev behind : List (Option (List ℕ))
    behind = drop (suc i) q.records

    one_more : i + 1 ≡ suc i
    one_more = omega arith

    rest_is : drop i q.records ≡ it ∷ behind
    rest_is = drop_more q.records i None here ∙ ap (λ k. it ∷ drop k q.records) one_more

    front_is : (rest : List (Option (List ℕ))) → take (suc i) q.records ++ rest ≡ take i q.records ++ it ∷ rest
    front_is rest =
        ap (λ k. take k q.records ++ rest) (sym one_more) ∙ ap (λ xs. xs ++ rest) (take_more q.records i None here)
        ∙ append_assoc (take i q.records) (it ∷ []) rest

    front_size : length (take i q.records) ≡ i
    front_size = length-take-le i q.records (omega (arith, here))

    owner_now : owner_in (get_or (take (suc i) q.records ++ map (unless_of owner) behind) i None) ≡ owner_in it
    owner_now =
        ap (λ xs. owner_in (get_or xs i None)) (front_is (map (unless_of owner) behind))
        ∙ ap owner_in (get_or_at (take i q.records) it (map (unless_of owner) behind) None i front_size)

    -- what is there above i, by whether record i + 1 is the owner's
    above : (b : Bool) → (owner_in it == owner) ≡ b →
        record q {
          records = take i q.records ++ cond b None it ∷ map (unless_of owner) behind;
          free = cond b (suc i ∷ numbers_of owner (suc i + 1) behind) (numbers_of owner (suc i + 1) behind) ++ q.free;
        } ≡ given_above q owner i
    above b e =
        queue_is (take i q.records ++ cond b None it ∷ map (unless_of owner) behind) (take i q.records ++ map (unless_of owner) (drop i q.records))
        (cond b (suc i ∷ numbers_of owner (suc i + 1) behind) (numbers_of owner (suc i + 1) behind) ++ q.free) (numbers_of owner (i + 1) (drop i q.records) ++ q.free)
        (sym (ap (λ xs. take i q.records ++ map (unless_of owner) xs) rest_is ∙ ap (λ t. take i q.records ++ cond t None it ∷ map (unless_of owner) behind) e))
        (sym (ap (λ xs. numbers_of owner (i + 1) xs ++ q.free) rest_is
        ∙ ap (λ t. cond t ((i + 1) ∷ numbers_of owner (i + 1 + 1) behind) (numbers_of owner (i + 1 + 1) behind) ++ q.free) e
        ∙ ap (λ k. cond b (k ∷ numbers_of owner (k + 1) behind) (numbers_of owner (k + 1) behind) ++ q.free) one_more))

    given : owner_in it ≡ owner → given_back (given_above q owner (suc i)) (suc i) ≡ given_above q owner i
    given same =
        queue_is (slice_set (take (suc i) q.records ++ map (unless_of owner) behind) i None) (take i q.records ++ None ∷ map (unless_of owner) behind)
        (suc i ∷ (numbers_of owner (suc i + 1) behind ++ q.free)) (suc i ∷ (numbers_of owner (suc i + 1) behind ++ q.free))
        (ap (λ xs. slice_set xs i None) (front_is (map (unless_of owner) behind)) ∙ set_at (take i q.records) it (map (unless_of owner) behind) None i front_size)
        refl ∙ above true (eq-eqb (owner_in it) owner same)

    kept : owner_in it ≢ owner → given_above q owner (suc i) ≡ given_above q owner i
    kept other =
        queue_is (take (suc i) q.records ++ map (unless_of owner) behind) (take i q.records ++ it ∷ map (unless_of owner) behind)
        (numbers_of owner (suc i + 1) behind ++ q.free) (numbers_of owner (suc i + 1) behind ++ q.free)
        (front_is (map (unless_of owner) behind)) refl ∙ above false (ne_eqb (owner_in it) owner other)

  pub step_given : (n i : ℕ) → suc i ≡ n → i < length q.records → owner_at (given_above q owner n) n ≡ owner → given_back (given_above q owner n) n ≡ given_above q owner i
  step_given n i is here =
      subst (λ m. owner_at (given_above q owner m) m ≡ owner → given_back (given_above q owner m) m ≡ given_above q owner i) is
      (λ same. given i here (sym (owner_now i here) ∙ same))

  pub step_kept : (n i : ℕ) → suc i ≡ n → i < length q.records → owner_at (given_above q owner n) n ≢ owner → given_above q owner n ≡ given_above q owner i
  step_kept n i is here =
      subst (λ m. owner_at (given_above q owner m) m ≢ owner → given_above q owner m ≡ given_above q owner i) is
      (λ other. kept i here (λ same. other (owner_now i here ∙ same)))

  -- its owner is as it was
  pub still_owned : (n i : ℕ) → suc i ≡ n → i < length q.records → owner_at (given_above q owner n) n ≡ owner_at q n
  still_owned n i is here = subst (λ m. owner_at (given_above q owner m) m ≡ owner_at q m) is (owner_now i here)

  -- records behind one number that are not the owner's stay
  pub block_kept : (k low n : ℕ) → n ≡ low + k → n ≤ length q.records → HasNoneBetween (given_above q owner n) owner low n → given_above q owner n ≡ given_above q owner low
  block_kept zero low n e h none = ap (λ m. given_above q owner m) (omega (arith, e))
  block_kept (suc k) low n e h none =
      let step : given_above q owner n ≡ given_above q owner (low + k) =
      step_kept n (low + k) (omega (arith, e)) (omega (arith, e, h)) (none n (omega (arith, e)) (omega arith)) in
      step ∙ block_kept k low (low + k) refl (omega (arith, e, h)) (λ m behind within. subst (λ s. owner_at s m ≢ owner) step (none m behind (omega (arith, e, within))))

  -- the same, by the records as they were
  pub unowned_kept : (k low n : ℕ) → n ≡ low + k → n ≤ length q.records → HasNoneBetween q owner low n → given_above q owner n ≡ given_above q owner low
  unowned_kept zero low n e h none =
      let same : n ≡ low = omega (arith, e) in
      ap (λ m. given_above q owner m) same
  unowned_kept (suc k) low n e h none =
      let same : n ≡ suc (low + k) = omega (arith, e) in
      let step : given_above q owner (suc (low + k)) ≡ given_above q owner (low + k) =
      kept (low + k) (omega (arith, e, h)) (none (suc (low + k)) (omega arith) (omega (arith, e))) in
      ap (λ m. given_above q owner m) same ∙ step
      ∙ unowned_kept k low (low + k) refl (omega (arith, e, h)) (λ m behind within. none m behind (omega (arith, e, within)))
