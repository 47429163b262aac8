-- Jobs that wait in the order of their numbers.
use Rattle.std.proofs.Common.{◌≡◌, ◌≢◌, ◌⊎◌, ℕ, zero, suc, ◌+◌, ◌-◌, ◌<◌, ◌≤◌, ◌==◌, ◌&&◌, not, Bool, true, false, List, [], ◌∷◌, ◌++◌, All, drop, get_or, length, map, replicate, set, take, Option, None, Some, arith, inl, inr, refl, sym, ap, ◌∙◌, subst, get_or-set_other, get_or-set_same}
use Rattle.std.specs.Prelude.{nat_le}
use Rattle.std.specs.List.{Contains, list_any}
use Rattle.std.proofs.lemmas.Bool.{and_parts, cases_eq, eqb-false, or_parts}
use Rattle.std.proofs.lemmas.List.{drop_all, drop_more, get_or-replicate, map-append, take_more}
use Rattle.std.proofs.lemmas.List.Elements.{All-append, All-cons, All-contains, All-contains_itself, All-nil, Contains-append_left, Contains-push}
use Rattle.plain.specs.Lists.{are_different}
use Rattle.cb_queue.specs.RecordQueues.{AreInOrder, RecordQueue, owner_at, shown}
use Rattle.queue_core.specs.declared.queue.Queued.{Queued}
use Rattle.queue_images.specs.declared.image.WaitingJob.{WaitingJob}
use Rattle.queue_images.specs.Waiting.{AreJctsOf, CanWait, IsOneOf, Wait, greatest, queued_in}

abbrev pub nowhere : WaitingJob
nowhere = record { job = 0; jct = 0 }

abbrev pub numbers : List WaitingJob → List ℕ
numbers jobs = map (λ (w : WaitingJob). w.job) jobs

-- no two have the same number
others_than : (n : ℕ) (ws : List WaitingJob) (j : ℕ) → list_any (λ m. m == n) (numbers ws) ≡ false → j < length ws → (get_or ws j nowhere).job ≢ n
others_than n [] j h there = absurd (omega (arith, there))
others_than n (w ∷ ws) zero h there = eqb-false w.job n (or_parts (w.job == n) (list_any (λ m. m == n) (numbers ws)) h).0
others_than n (w ∷ ws) (suc j) h there = others_than n ws j (or_parts (w.job == n) (list_any (λ m. m == n) (numbers ws)) h).1 (omega (arith, there))

not_is : (b : Bool) → not b ≡ true → b ≡ false
not_is true h = absurd cc
not_is false h = refl

pub apart : (ws : List WaitingJob) (k : ℕ) → are_different (numbers ws) ≡ true → k < length ws →
    All (λ v. v.job ≢ (get_or ws k nowhere).job) (take k ws)
apart [] k h there = absurd (omega (arith, there))
apart (w ∷ ws) zero h there = All-nil _
apart (w ∷ ws) (suc k) h there =
    let parts = and_parts (not (list_any (λ m. m == w.job) (numbers ws))) (are_different (numbers ws)) h in
    let other = others_than w.job ws k (not_is (list_any (λ m. m == w.job) (numbers ws)) parts.0) (omega (arith, there)) in
    All-cons (λ v. v.job ≢ (get_or ws k nowhere).job) w (take k ws) (λ e. other (sym e)) (apart ws k parts.1 (omega (arith, there)))

-- the JCTs of no job
pub no_jcts : (count : ℕ) (jcts : List ℕ) → jcts ≡ replicate count 0 → AreJctsOf jcts []
no_jcts count jcts are = record {
  others = λ n some. absurd (some (ap (λ (ns : List ℕ). get_or ns n 0) are ∙ zeros count n));
  each = All-nil _;
}
  where
    zeros : (k n : ℕ) → (let ns : List ℕ = replicate k 0 in get_or ns n 0) ≡ 0
    zeros zero n = refl
    zeros (suc k) zero = refl
    zeros (suc k) (suc n) = zeros k n

-- one more
module _ (jobs : List WaitingJob) (k : ℕ) (there : k < length jobs) (once : are_different (numbers jobs) ≡ true) (jcts new : List ℕ)
    (small : (get_or jobs k nowhere).job < length jcts) (is_set : new ≡ set jcts (get_or jobs k nowhere).job (get_or jobs k nowhere).jct)
    (before : AreJctsOf jcts (take k jobs)) where
  abbrev w : WaitingJob
  w = get_or jobs k nowhere

  at_its : get_or new w.job 0 ≡ w.jct
  at_its = ap (λ ns. get_or ns w.job 0) is_set ∙ get_or-set_same jcts w.job w.jct 0 small

  at_others : (n : ℕ) → n ≢ w.job → get_or new n 0 ≡ get_or jcts n 0
  at_others n other = ap (λ ns. get_or ns n 0) is_set ∙ get_or-set_other jcts w.job n w.jct 0 other

  others_by : (n : ℕ) → get_or new n 0 ≢ 0 → (n ≡ w.job) ⊎ (n ≢ w.job) → Contains (take k jobs ++ w ∷ []) (record { job = n; jct = get_or new n 0 })
  others_by n some (inl same) =
      subst (Contains (take k jobs ++ w ∷ [])) (λ i. record { job = sym same i; jct = sym (ap (λ m. get_or new m 0) same ∙ at_its) i })
      (Contains-push (take k jobs) w)
  others_by n some (inr other) =
      let here = at_others n other in
      Contains-append_left (take k jobs) (w ∷ []) (record { job = n; jct = get_or new n 0 })
      (subst (λ jct. Contains (take k jobs) (record { job = n; jct = jct })) (sym here) (before.others n (λ e. some (here ∙ e))))

  pub one_jct : AreJctsOf new (take (k + 1) jobs)
  one_jct = subst (AreJctsOf new) (sym (take_more jobs k nowhere there)) (record {
    others = λ n some. others_by n some (cases_eq n w.job);
    each = All-append (λ v. get_or new v.job 0 ≡ v.jct) (take k jobs) (w ∷ [])
        (λ j d less. at_others (get_or (take k jobs) j d).job (apart jobs k once there j d less) ∙ before.each j d less)
        (All-cons (λ v. get_or new v.job 0 ≡ v.jct) w [] at_its (All-nil _));
  })

-- The jobs with numbers less than one wait.
pub record WaitTo (old new : RecordQueue) (jobs : List WaitingJob) (n : ℕ) (ns : List ℕ) : Type 0 where
  pub rest : new ≡ record old { waiting = new.waiting }
  pub below : All (λ (x : Queued). x.job < n) new.waiting
  pub others : All (IsOneOf old jobs) new.waiting
  pub each : All (λ w. w.job < n → Contains new.waiting (queued_in old w)) jobs
  pub numbers : ns ≡ map (λ (x : Queued). x.job) new.waiting

module _ (old : RecordQueue) (jobs : List WaitingJob) (stand : All (CanWait old) jobs) where
  -- no JCT is record 0
  has_jct : (w : WaitingJob) → CanWait old w → w.jct ≢ 0
  has_jct w can e = can.job (sym can.owner ∙ ap (owner_at old) e)

  pub none_wait : (new : RecordQueue) (ns : List ℕ) → new ≡ old → old.waiting ≡ [] → ns ≡ [] → WaitTo old new jobs 1 ns
  none_wait new ns same nobody no_numbers =
      let none : new.waiting ≡ [] = ap (λ (q : RecordQueue). q.waiting) same ∙ nobody in
      record {
        rest = same ∙ ap (λ ws. record old { waiting = ws }) (sym (ap (λ (q : RecordQueue). q.waiting) same));
        below = subst (All (λ (x : Queued). x.job < 1)) (sym none) (All-nil _);
        others = subst (All (IsOneOf old jobs)) (sym none) (All-nil _);
        each = λ j d less first. let job = (stand j d less).job in absurd (omega (arith, first, job));
        numbers = no_numbers ∙ ap (map (λ (x : Queued). x.job)) (sym none);
      }

  module _ (jcts : List ℕ) (are : AreJctsOf jcts jobs) (new : RecordQueue) (n : ℕ) (ns : List ℕ) (before : WaitTo old new jobs n ns) where
    -- one that has no JCT is none of these
    pub one_left : get_or jcts n 0 ≡ 0 → WaitTo old new jobs (n + 1) ns
    one_left none = record {
      rest = before.rest;
      below = λ j d less. let small = before.below j d less in omega (arith, small);
      others = before.others;
      each = λ j d less small. by j d less small (cases_eq (get_or jobs j d).job n);
      numbers = before.numbers;
    }
      where
        by : (j : ℕ) (d : WaitingJob) → j < length jobs → (get_or jobs j d).job < n + 1 → ((get_or jobs j d).job ≡ n) ⊎ ((get_or jobs j d).job ≢ n) →
            Contains new.waiting (queued_in old (get_or jobs j d))
        by j d less small (inl same) =
            absurd (has_jct (get_or jobs j d) (stand j d less) (sym (are.each j d less) ∙ ap (λ m. get_or jcts m 0) same ∙ none))
        by j d less small (inr other) = before.each j d less (omega (arith, small, other))

    module _ (some : get_or jcts n 0 ≢ 0) where
      abbrev pub it : WaitingJob
      it = record { job = n; jct = get_or jcts n 0 }

      is_one : Contains jobs it
      is_one = are.others n some

      can_old : CanWait old it
      can_old = All-contains (CanWait old) jobs it stand is_one

      pub can : CanWait new it
      can = subst (λ q. CanWait q it) (sym before.rest)
          (record { job = can_old.job; owner = can_old.owner; class = can_old.class; priority = can_old.priority })

      pub later : All (λ (x : Queued). x.job < it.job) new.waiting
      later = before.below

      same_queued : queued_in new it ≡ queued_in old it
      same_queued = ap (λ q. queued_in q it) before.rest

      -- one that has one waits too
      module _ (entered : RecordQueue) (more : List ℕ) (is : entered ≡ record new { waiting = new.waiting ++ queued_in new it ∷ [] }) (told : more ≡ ns ++ n ∷ []) where
        abbrev waiting : List Queued
        waiting = new.waiting ++ queued_in old it ∷ []

        waits : entered.waiting ≡ waiting
        waits = ap (λ (q : RecordQueue). q.waiting) is ∙ ap (λ x. new.waiting ++ x ∷ []) same_queued

        each_by : (j : ℕ) (d : WaitingJob) → j < length jobs → (get_or jobs j d).job < n + 1 → ((get_or jobs j d).job ≡ n) ⊎ ((get_or jobs j d).job ≢ n) →
            Contains waiting (queued_in old (get_or jobs j d))
        each_by j d less small (inl same) =
            let its : it ≡ get_or jobs j d =
            λ i. record { job = sym same i; jct = (ap (λ m. get_or jcts m 0) (sym same) ∙ are.each j d less) i } in
            subst (λ w. Contains waiting (queued_in old w)) its (Contains-push new.waiting (queued_in old it))
        each_by j d less small (inr other) =
            Contains-append_left new.waiting (queued_in old it ∷ []) (queued_in old (get_or jobs j d)) (before.each j d less (omega (arith, small, other)))

        pub one_more : WaitTo old entered jobs (n + 1) more
        one_more = record {
          rest = is ∙ ap (λ (q : RecordQueue). record q { waiting = new.waiting ++ queued_in new it ∷ [] }) before.rest
              ∙ ap (λ ws. record old { waiting = ws }) (sym (ap (λ (q : RecordQueue). q.waiting) is));
          below = subst (All (λ (x : Queued). x.job < n + 1)) (sym waits)
              (All-append (λ (x : Queued). x.job < n + 1) new.waiting (queued_in old it ∷ [])
              (λ j d less. let small = before.below j d less in omega (arith, small))
              (All-cons (λ (x : Queued). x.job < n + 1) (queued_in old it) [] (omega arith) (All-nil _)));
          others = subst (All (IsOneOf old jobs)) (sym waits)
              (All-append (IsOneOf old jobs) new.waiting (queued_in old it ∷ []) before.others
              (All-cons (IsOneOf old jobs) (queued_in old it) [] (it, is_one, refl) (All-nil _)));
          each = λ j d less small. subst (λ ws. Contains ws (queued_in old (get_or jobs j d))) (sym waits)
              (each_by j d less small (cases_eq (get_or jobs j d).job n));
          numbers = told ∙ ap (λ ms. ms ++ n ∷ []) before.numbers
              ∙ sym (ap (map (λ (x : Queued). x.job)) waits ∙ map-append (λ (x : Queued). x.job) new.waiting (queued_in old it ∷ []));
        }

-- all wait
pub all_wait : (old new : RecordQueue) (jobs : List WaitingJob) (n : ℕ) (ns : List ℕ) → All (λ w. w.job < n) jobs → AreInOrder new.waiting →
    WaitTo old new jobs n ns → Wait new jobs ns
all_wait old new jobs n ns small order h = record {
  each = λ j d less. subst (λ q. Contains new.waiting (queued_in q (get_or jobs j d))) (sym h.rest) (h.each j d less (small j d less));
  others = subst (λ q. All (IsOneOf q jobs) new.waiting) (sym h.rest) h.others;
  in_order = order;
  numbers = h.numbers;
}

-- the greatest number of jobs that are looked at from the last to the first
pub record IsGreatest (jobs : List WaitingJob) (n last : ℕ) : Type 0 where
  pub within : n ≤ length jobs
  pub is : last ≡ greatest (numbers (drop n jobs))

pub none_greatest : (jobs : List WaitingJob) (n last : ℕ) → n ≡ length jobs → last ≡ 0 → IsGreatest jobs n last
none_greatest jobs n last end none = record {
  within = omega (arith, end);
  is = none ∙ sym (ap (λ (ws : List WaitingJob). greatest (numbers ws)) (drop_all n jobs (omega (arith, end))));
}

one_greater : (jobs : List WaitingJob) (n : ℕ) → 0 < n → n ≤ length jobs →
    numbers (drop (n - 1) jobs) ≡ (get_or jobs (n - 1) nowhere).job ∷ numbers (drop n jobs)
one_greater jobs n some within =
    let next : n - 1 + 1 ≡ n = omega (arith, some) in
    ap numbers (drop_more jobs (n - 1) nowhere (omega (arith, some, within)))
    ∙ ap (λ m. (get_or jobs (n - 1) nowhere).job ∷ numbers (drop m jobs)) next
