-- The jobs that were kept can wait in their queue, and a machine can begin with them.
use Rattle.std.proofs.Common.{◌≡◌, ◌≢◌, ℕ, zero, suc, ◌+◌, ◌<◌, ◌≤◌, ◌==◌, ◌&&◌, ◌||◌, not, Bool, true, false, cond, List, [], ◌∷◌, All, get_or, length, map, Option, None, Some, arith, refl, sym, ap, ◌∙◌, subst}
use Rattle.std.specs.Prelude.{filter, if◌then◌else◌, is_none, nat_le}
use Rattle.std.specs.List.{AllZip, Contains, list_all, list_any}
use Rattle.std.proofs.lemmas.Bool.{and_parts, eq-eqb, eqb-true, leb-false, leb-true, or_left, or_parts, or_right}
use Rattle.std.proofs.lemmas.List.{get_or_default}
use Rattle.std.proofs.lemmas.List.Elements.{All-cons, All-contains, All-filter, All-head, All-nil, All-tail}
use Rattle.jname_core.specs.Characters.{is_job_class}
use Rattle.plain.specs.Lists.{are_different}
use Rattle.cb_meaning.specs.declared.layout.TheConstants.{LAYOUT_2}
use Rattle.cb_meaning.specs.Fields.{byte_at, field, number_at}
use Rattle.cb_meaning.specs.Spelled.{IsOwned, Spell, SpellsJct, jct}
use Rattle.cb_meaning.specs.Walks.{is_free, kind_of}
use Rattle.cb_queue.specs.RecordQueues.{RecordQueue, bytes_or_zeros, owner_at, owner_in, record_at, shown}
use Rattle.queue_core.specs.declared.queue.Queued.{Queued}
use Rattle.queued_job.specs.Opening.{CanBegin}
use Rattle.queue_images.specs.declared.image.DroppedJob.{DroppedJob}
use Rattle.queue_images.specs.declared.image.WaitingJob.{WaitingJob}
use Rattle.queue_images.specs.Carrying.{AreCarried, AreWaiting, IsCarried}
use Rattle.queue_images.specs.Images.{are_job_numbers, fault_in, kept_of}
use Rattle.queue_images.specs.Waiting.{CanWait, IsOneOf, Wait, greatest, queued_in}
use Rattle.queue_images.proofs.Numbered.{fits_at}
use Rattle.queue_images.proofs.Waits.{numbers}

-- Numbers of some jobs are different where those of all are.
not_among : (p : WaitingJob → Bool) (n : ℕ) (ws : List WaitingJob) → list_any (λ m. m == n) (numbers ws) ≡ false →
    list_any (λ m. m == n) (numbers (filter p ws)) ≡ false
not_among p n [] h = refl
not_among p n (w ∷ ws) h =
    let parts = or_parts (w.job == n) (list_any (λ m. m == n) (numbers ws)) h in
    let on = not_among p n ws parts.1 in
    by (p w) refl (λ i. parts.0 i || on i) on
  where
    by : (b : Bool) → p w ≡ b → ((w.job == n) || list_any (λ m. m == n) (numbers (filter p ws))) ≡ false →
        list_any (λ m. m == n) (numbers (filter p ws)) ≡ false → list_any (λ m. m == n) (numbers (filter p (w ∷ ws))) ≡ false
    by true is with_it without = ap (λ b. list_any (λ m. m == n) (numbers (cond b (w ∷ filter p ws) (filter p ws)))) is ∙ with_it
    by false is with_it without = ap (λ b. list_any (λ m. m == n) (numbers (cond b (w ∷ filter p ws) (filter p ws)))) is ∙ without

not_is : (b : Bool) → not b ≡ true → b ≡ false
not_is true h = absurd cc
not_is false h = refl

still_different : (p : WaitingJob → Bool) (ws : List WaitingJob) → are_different (numbers ws) ≡ true → are_different (numbers (filter p ws)) ≡ true
still_different p [] h = refl
still_different p (w ∷ ws) h =
    let parts = and_parts (not (list_any (λ m. m == w.job) (numbers ws))) (are_different (numbers ws)) h in
    let on = still_different p ws parts.1 in
    let none = not_among p w.job ws (not_is (list_any (λ m. m == w.job) (numbers ws)) parts.0) in
    by (p w) refl (λ i. not (none i) && on i) on
  where
    by : (b : Bool) → p w ≡ b → (not (list_any (λ m. m == w.job) (numbers (filter p ws))) && are_different (numbers (filter p ws))) ≡ true →
        are_different (numbers (filter p ws)) ≡ true → are_different (numbers (filter p (w ∷ ws))) ≡ true
    by true is with_it without = ap (λ b. are_different (numbers (cond b (w ∷ filter p ws) (filter p ws)))) is ∙ with_it
    by false is with_it without = ap (λ b. are_different (numbers (cond b (w ∷ filter p ws) (filter p ws)))) is ∙ without

-- no number is greater than the greatest
up_to_greatest : (ws : List WaitingJob) → All (λ w. w.job ≤ greatest (numbers ws)) ws
up_to_greatest [] = All-nil _
up_to_greatest (w ∷ ws) = by (nat_le w.job (greatest (numbers ws))) refl (up_to_greatest ws)
  where
    by : (b : Bool) → nat_le w.job (greatest (numbers ws)) ≡ b → All (λ v. v.job ≤ greatest (numbers ws)) ws →
        All (λ v. v.job ≤ greatest (numbers (w ∷ ws))) (w ∷ ws)
    by true less on =
        let same : greatest (numbers (w ∷ ws)) ≡ (greatest (numbers ws)) = ap (λ b. if b then (greatest (numbers ws)) else w.job) less in
        let here = leb-true w.job (greatest (numbers ws)) less in
        subst (λ n. All (λ v. v.job ≤ n) (w ∷ ws)) (sym same) (All-cons (λ v. v.job ≤ (greatest (numbers ws))) w ws here on)
    by false more on =
        let same : greatest (numbers (w ∷ ws)) ≡ w.job = ap (λ b. if b then (greatest (numbers ws)) else w.job) more in
        let over = leb-false w.job (greatest (numbers ws)) more in
        subst (λ n. All (λ v. v.job ≤ n) (w ∷ ws)) (sym same)
        (All-cons (λ v. v.job ≤ w.job) w ws (omega arith) (λ k d less. let small = on k d less in omega (arith, small, over)))

greatest_within : (most : ℕ) (ws : List WaitingJob) → All (λ w. w.job ≤ most) ws → greatest (numbers ws) ≤ most
greatest_within most [] h = omega arith
greatest_within most (w ∷ ws) h = by (nat_le w.job (greatest (numbers ws))) refl (greatest_within most ws (All-tail (λ v. v.job ≤ most) w ws h))
  where
    by : (b : Bool) → nat_le w.job (greatest (numbers ws)) ≡ b → greatest (numbers ws) ≤ most → greatest (numbers (w ∷ ws)) ≤ most
    by true less on = subst (λ n. n ≤ most) (sym (ap (λ b. if b then greatest (numbers ws) else w.job) less)) on
    by false more on = subst (λ n. n ≤ most) (sym (ap (λ b. if b then greatest (numbers ws) else w.job) more)) (All-head (λ v. v.job ≤ most) w ws h)

any_contains : (n : ℕ) (xs : List Queued) (k : ℕ) (d : Queued) → k < length xs → (get_or xs k d).job ≡ n → list_any (λ x. x.job == n) xs ≡ true
any_contains n [] k d there is = absurd (omega (arith, there))
any_contains n (x ∷ xs) zero d there is = or_left (x.job == n) (list_any (λ y. y.job == n) xs) (eq-eqb x.job n is)
any_contains n (x ∷ xs) (suc k) d there is =
    or_right (x.job == n) (list_any (λ y. y.job == n) xs) (any_contains n xs k d (omega (arith, there)) is)

owner_seen : (o : Option (List ℕ)) → number_at (bytes_or_zeros o) (field 2 2) ≡ owner_in o
owner_seen None = refl
owner_seen (Some r) = refl

module _ (image : List ℕ) (units : ℕ) (q : RecordQueue) where
  -- what holds of the numbers of jobs holds of those that stand for them
  zip_are : (P : ℕ → Type 0) (xs ys : List WaitingJob) → AllZip (IsCarried image units q) xs ys → All (λ w. P w.job) xs → All (λ w. P w.job) ys
  zip_are P [] [] h are = All-nil _
  zip_are P [] (y ∷ ys) h are = absurd h
  zip_are P (x ∷ xs) [] h are = absurd h
  zip_are P (x ∷ xs) (y ∷ ys) h are =
      All-cons (λ w. P w.job) y ys (subst P (sym h.0.job) (All-head (λ w. P w.job) x xs are)) (zip_are P xs ys h.1 (All-tail (λ w. P w.job) x xs are))

  zip_numbers : (xs ys : List WaitingJob) → AllZip (IsCarried image units q) xs ys → numbers ys ≡ numbers xs
  zip_numbers [] [] h = refl
  zip_numbers [] (y ∷ ys) h = absurd h
  zip_numbers (x ∷ xs) [] h = absurd h
  zip_numbers (x ∷ xs) (y ∷ ys) h = λ i. h.0.job i ∷ zip_numbers xs ys h.1 i

  -- the JCT of a job that was kept
  record IsFirst (w : WaitingJob) : Type 0 where
    can : CanWait q w
    kind : kind_of (shown q) w.jct ≡ jct

  one_first : (v w : WaitingJob) → w.job ≢ 0 → IsCarried image units q v w → IsFirst w
  one_first v w some h =
      let s : Spell LAYOUT_2 (shown q) w.job (w.jct ∷ h.behind) h.plan = h.denotes.spelled in
      let first : w.jct ≡ s.first = cc in
      let owned : IsOwned LAYOUT_2 (shown q) w.job jct w.jct = subst (IsOwned LAYOUT_2 (shown q) w.job jct) (sym first) s.owned in
      let head : SpellsJct LAYOUT_2 h.plan ((shown q).at w.jct) = subst (λ n. SpellsJct LAYOUT_2 h.plan ((shown q).at n)) (sym first) s.head in
      let class = h.denotes.in_range.class in
      let priority = h.denotes.in_range.priority in
      let letter : is_job_class (byte_at ((shown q).at w.jct) 9) ≡ true = ap is_job_class head.class ∙ class in
      let among = and_parts (nat_le 65 (byte_at ((shown q).at w.jct) 9)) (nat_le (byte_at ((shown q).at w.jct) 9) 79) letter in
      record {
        can = record {
          job = some;
          owner = sym (owner_seen (record_at q w.jct)) ∙ owned.of_job;
          class = (leb-true 65 (byte_at ((shown q).at w.jct) 9) among.0, leb-true (byte_at ((shown q).at w.jct) 9) 79 among.1);
          priority = subst (λ n. n ≤ 13) (sym head.priority) priority;
        };
        kind = ap (λ b. if b then 0 else byte_at ((shown q).at w.jct) 0) owned.in_use ∙ owned.of_kind;
      }

  all_first : (xs ys : List WaitingJob) → AllZip (IsCarried image units q) xs ys → All (λ w. w.job ≢ 0) ys → All IsFirst ys
  all_first [] [] h some = All-nil _
  all_first [] (y ∷ ys) h some = absurd h
  all_first (x ∷ xs) [] h some = absurd h
  all_first (x ∷ xs) (y ∷ ys) h some =
      All-cons IsFirst y ys (one_first x y (All-head (λ w. w.job ≢ 0) y ys some) h.0) (all_first xs ys h.1 (All-tail (λ w. w.job ≢ 0) y ys some))

  module _ (jobs stay : List WaitingJob) (go : List DroppedJob) (good : are_job_numbers (numbers jobs) ≡ true) (h : AreCarried image units jobs q stay go) where
    fit : (k : ℕ) (d : WaitingJob) → k < length jobs → (1 ≤ (get_or jobs k d).job) × ((get_or jobs k d).job ≤ 9999)
    fit k d there =
        subst (λ (w : WaitingJob). (1 ≤ w.job) × (w.job ≤ 9999)) (get_or_default jobs k (record { job = 0; jct = 0 }) d there) (fits_at jobs k there good)

    abbrev reads : WaitingJob → Bool
    reads w = is_none (fault_in image units w)

    kept_are : (P : ℕ → Type 0) → All (λ w. P w.job) jobs → All (λ w. P w.job) stay
    kept_are P are = zip_are P (kept_of image units jobs) stay h.kept (All-filter reads (λ w. P w.job) jobs are)

    pub small : All (λ w. w.job ≤ 9999) stay
    small = kept_are (λ n. n ≤ 9999) (λ k d there. (fit k d there).1)

    pub once : are_different (numbers stay) ≡ true
    once =
        ap are_different (zip_numbers (kept_of image units jobs) stay h.kept)
        ∙ still_different reads jobs (and_parts (list_all (λ n. nat_le 1 n && nat_le n 9999) (numbers jobs)) (are_different (numbers jobs)) good).1

    firsts : All IsFirst stay
    firsts = all_first (kept_of image units jobs) stay h.kept
        (kept_are (λ n. n ≢ 0) (λ k d there e. let from = (fit k d there).0 in omega (arith, from, e)))

    pub stand : All (CanWait q) stay
    stand = λ k d there. (firsts k d there).can

    -- with those that wait now
    module _ (new : RecordQueue) (ns : List ℕ) (last : ℕ) (rest : new ≡ record q { waiting = new.waiting }) (waits : Wait new stay ns)
        (is : last ≡ greatest (numbers jobs)) where
      abbrev moved : RecordQueue
      moved = record q { waiting = new.waiting }

      carried_on : (x y : WaitingJob) → IsCarried image units q x y → IsCarried image units moved x y
      carried_on x y c = record {
        job = c.job;
        plan = c.plan;
        before = c.before;
        behind = c.behind;
        denoted = c.denoted;
        denotes = c.denotes;
      }

      zip_on : (xs ys : List WaitingJob) → AllZip (IsCarried image units q) xs ys → AllZip (IsCarried image units moved) xs ys
      zip_on [] [] c = c
      zip_on [] (y ∷ ys) c = c
      zip_on (x ∷ xs) [] c = c
      zip_on (x ∷ xs) (y ∷ ys) c = (carried_on x y c.0, zip_on xs ys c.1)

      pub still_carried : AreCarried image units jobs new stay go
      still_carried = subst (λ x. AreCarried image units jobs x stay go) (sym rest) (record {
        kept = zip_on (kept_of image units jobs) stay h.kept;
        dropped = h.dropped;
        layout = h.layout;
        owned = h.owned;
        fresh = h.fresh;
      })

      same_owner : (n : ℕ) → owner_at new n ≡ owner_at q n
      same_owner n = ap (λ x. owner_at x n) rest

      one_waits : (n : ℕ) (ws : List WaitingJob) → All (λ w. Contains new.waiting (queued_in new w)) ws → list_any (λ w. w.job == n) ws ≡ true →
          list_any (λ x. x.job == n) new.waiting ≡ true
      one_waits n [] each e = absurd cc
      one_waits n (w ∷ ws) each e = by (w.job == n) refl (one_waits n ws (All-tail (λ v. Contains new.waiting (queued_in new v)) w ws each))
        where
          by : (b : Bool) → (w.job == n) ≡ b → (list_any (λ v. v.job == n) ws ≡ true → list_any (λ x. x.job == n) new.waiting ≡ true) →
              list_any (λ x. x.job == n) new.waiting ≡ true
          by true here on =
              let there = All-head (λ v. Contains new.waiting (queued_in new v)) w ws each in
              any_contains n new.waiting there.0 (queued_in new w) there.1 (ap (λ (x : Queued). x.job) there.2 ∙ eqb-true w.job n here)
          by false other on = on (sym (ap (λ b. b || list_any (λ v. v.job == n) ws) other) ∙ e)

      kind_new : (w : WaitingJob) → IsFirst w → kind_of (shown new) w.jct ≡ jct
      kind_new w f = ap (λ x. kind_of (shown x) w.jct) rest ∙ f.kind

      kind_one : (x : Queued) → IsOneOf new stay x → kind_of (shown new) x.jct ≡ jct
      kind_one x o = ap (λ (y : Queued). kind_of (shown new) y.jct) o.2 ∙ kind_new o.0 (All-contains IsFirst stay o.0 firsts o.1)

      kept_last : All (λ w. w.job ≤ last) stay
      kept_last = subst (λ n. All (λ w. w.job ≤ n) stay) (sym is) (kept_are (λ n. n ≤ greatest (numbers jobs)) (up_to_greatest jobs))

      last_one : (x : Queued) → IsOneOf new stay x → x.job ≤ last
      last_one x o =
          subst (λ n. n ≤ last) (sym (ap (λ (y : Queued). y.job) o.2)) (All-contains (λ (w : WaitingJob). w.job ≤ last) stay o.0 kept_last o.1)

      pub are_waiting : AreWaiting jobs new stay ns last
      are_waiting = record {
        wait = waits;
        greatest = is;
        begins = record {
          owned = λ n some. one_waits (owner_at new n) stay waits.each
              (ap (λ m. list_any (λ w. w.job == m) stay) (same_owner n) ∙ h.owned n (λ e. some (same_owner n ∙ e)));
          kinds = λ k d there. kind_one (get_or new.waiting k d) (waits.others k d there);
          numbered = λ k d there. last_one (get_or new.waiting k d) (waits.others k d there);
        };
        few = subst (λ n. n ≤ 9999) (sym is) (greatest_within 9999 jobs (λ k d there. (fit k d there).1));
      }
