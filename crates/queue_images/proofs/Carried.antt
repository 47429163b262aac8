-- A job more is carried over, or dropped.
use Rattle.std.proofs.Common.{◌≡◌, ◌≢◌, ℕ, zero, suc, ◌+◌, ◌<◌, ◌≤◌, ◌==◌, ◌||◌, Bool, true, false, cond, List, [], ◌∷◌, ◌++◌, drop, get_or, length, replicate, take, Option, None, Some, arith, refl, sym, ap, ◌∙◌, subst}
use Rattle.std.specs.Prelude.{All, Err, Ok, Result, filter, is_none, slice_get}
use Rattle.std.specs.List.{AllZip, flat_map, list_any}
use Rattle.std.proofs.lemmas.Bool.{eq-eqb, eqb-true, or_left, or_parts, or_right}
use Rattle.std.proofs.lemmas.Grind.{flat_map-append}
use Rattle.std.proofs.lemmas.List.{append-nil, take_more}
use Rattle.std.proofs.lemmas.List.Elements.{All-head, All-tail, filter-append}
use Rattle.jcl_plan.specs.declared.plan.JobPlan.{JobPlan}
use Rattle.cb_meaning.specs.declared.layout.Layout.{Layout}
use Rattle.cb_meaning.specs.declared.layout.TheConstants.{LAYOUT_1, LAYOUT_2}
use Rattle.cb_meaning.specs.Fields.{byte_at, field, number_at}
use Rattle.cb_meaning.specs.Needs.{records_needed}
use Rattle.cb_meaning.specs.Spelled.{Denotes, IsOwned, Records}
use Rattle.cb_meaning.specs.Walks.{is_free, owner_of}
use Rattle.cb_queue.specs.RecordQueues.{HasOwnLink, RecordQueue, bytes_or_zeros, empty_queue, no_records, owner_at, owner_in, record_at, shown}
use Rattle.cb_chain.specs.Written.{IsFresh, Written}
use Rattle.record_laws.proofs.Owners.{job_owned}
use Rattle.world_meaning.specs.Records.{AgreeBut, IsQueueLayout, open_fields}
use Rattle.world_laws.specs.RecordsKept.{DenotesStill, KeepsRecords}
use Rattle.queue_images.specs.declared.image.DroppedJob.{DroppedJob}
use Rattle.queue_images.specs.declared.image.WaitingJob.{WaitingJob}
use Rattle.queue_images.specs.Carrying.{AreCarried, CarriesOne, IsCarried, IsNoted, IsWrittenAnew}
use Rattle.queue_images.specs.Images.{dropped_for, dropped_of, fault_in, kept_of, records_in}
use Rattle.queue_images.proofs.Stepped.{allows}

any_take : {X : Type 0} (p : X → Bool) (k : ℕ) (xs : List X) → list_any p xs ≡ false → list_any p (take k xs) ≡ false
any_take p zero xs h = refl
any_take p (suc k) [] h = refl
any_take p (suc k) (x ∷ xs) h =
    let parts = or_parts (p x) (list_any p xs) h in
    (λ i. parts.0 i || any_take p k xs parts.1 i)

any_drop : {X : Type 0} (p : X → Bool) (k : ℕ) (xs : List X) → list_any p xs ≡ false → list_any p (drop k xs) ≡ false
any_drop p zero xs h = h
any_drop p (suc k) [] h = refl
any_drop p (suc k) (x ∷ xs) h = any_drop p k xs (or_parts (p x) (list_any p xs) h).1

any_front : {X : Type 0} (p : X → Bool) (xs ys : List X) → list_any p xs ≡ true → list_any p (xs ++ ys) ≡ true
any_front p [] ys h = absurd cc
any_front p (x ∷ xs) ys h = by (p x) refl (any_front p xs ys)
  where
    by : (b : Bool) → p x ≡ b → (list_any p xs ≡ true → list_any p (xs ++ ys) ≡ true) → (p x || list_any p (xs ++ ys)) ≡ true
    by true e on = or_left (p x) (list_any p (xs ++ ys)) e
    by false e on = or_right (p x) (list_any p (xs ++ ys)) (on (sym (ap (λ t. t || list_any p xs) e) ∙ h))

any_back : {X : Type 0} (p : X → Bool) (xs ys : List X) → list_any p ys ≡ true → list_any p (xs ++ ys) ≡ true
any_back p [] ys h = h
any_back p (x ∷ xs) ys h = or_right (p x) (list_any p (xs ++ ys)) (any_back p xs ys h)

all_among : (P : ℕ → Type 0) (n : ℕ) (xs : List ℕ) → All P xs → list_any (λ m. m == n) xs ≡ true → P n
all_among P n [] h e = absurd cc
all_among P n (x ∷ xs) h e = by (x == n) refl (all_among P n xs (All-tail P x xs h))
  where
    by : (b : Bool) → (x == n) ≡ b → (list_any (λ m. m == n) xs ≡ true → P n) → P n
    by true is on = subst P (eqb-true x n is) (All-head P x xs h)
    by false is on = on (sym (ap (λ t. t || list_any (λ m. m == n) xs) is) ∙ e)

zip_same : {A B : Type 0} (P Q : A → B → Type 0) → ((a : A) (b : B) → P a b → Q a b) → (xs : List A) (ys : List B) → AllZip P xs ys → AllZip Q xs ys
zip_same P Q f [] [] h = h
zip_same P Q f [] (y ∷ ys) h = h
zip_same P Q f (x ∷ xs) [] h = h
zip_same P Q f (x ∷ xs) (y ∷ ys) h = (f x y h.0, zip_same P Q f xs ys h.1)

zip_more : {A B : Type 0} (P : A → B → Type 0) (xs : List A) (ys : List B) (x : A) (y : B) → AllZip P xs ys → P x y → AllZip P (xs ++ x ∷ []) (ys ++ y ∷ [])
zip_more P [] [] x y h is = (is, h)
zip_more P [] (z ∷ ys) x y h is = absurd h
zip_more P (z ∷ xs) [] x y h is = absurd h
zip_more P (a ∷ xs) (b ∷ ys) x y h is = (h.0, zip_more P xs ys x y h.1 is)

begins_with : (xs : List ℕ) (x : ℕ) → slice_get xs 0 ≡ Some x → (rest : List ℕ) × (xs ≡ x ∷ rest)
begins_with [] x e = absurd cc
begins_with (y ∷ ys) x e = (ys, (let same : y ≡ x = cc in ap (λ z. z ∷ ys) same))

owner_seen : (o : Option (List ℕ)) → number_at (bytes_or_zeros o) (field 2 2) ≡ owner_in o
owner_seen None = refl
owner_seen (Some r) = refl

module _ (image : List ℕ) (units : ℕ) (xs : List WaitingJob) (w : WaitingJob) where
  kept_with : (b : Bool) → is_none (fault_in image units w) ≡ b → kept_of image units (xs ++ w ∷ []) ≡ kept_of image units xs ++ cond b (w ∷ []) []
  kept_with b e =
      filter-append (λ v. is_none (fault_in image units v)) xs (w ∷ [])
      ∙ ap (λ t. kept_of image units xs ++ cond t (w ∷ []) []) e

  dropped_with : dropped_of image units (xs ++ w ∷ []) ≡ dropped_of image units xs ++ dropped_for w.job (fault_in image units w)
  dropped_with =
      flat_map-append (λ v. dropped_for v.job (fault_in image units v)) xs (w ∷ [])
      ∙ ap (λ ds. dropped_of image units xs ++ ds) (append-nil (dropped_for w.job (fault_in image units w)))

  -- one that is dropped
  pub one_dropped : (q : RecordQueue) (stay : List WaitingJob) (go : List DroppedJob) (fault : ℕ) → fault_in image units w ≡ Some fault →
      AreCarried image units xs q stay go → AreCarried image units (xs ++ w ∷ []) q stay (go ++ record { job = w.job; fault = fault } ∷ [])
  one_dropped q stay go fault is h = record {
    kept = subst (λ ws. AllZip (IsCarried image units q) ws stay)
        (sym (kept_with false (ap is_none is) ∙ append-nil (kept_of image units xs))) h.kept;
    dropped = ap (λ ds. ds ++ record { job = w.job; fault = fault } ∷ []) h.dropped
        ∙ sym (dropped_with ∙ ap (λ o. dropped_of image units xs ++ dropped_for w.job o) is);
    layout = h.layout;
    owned = h.owned;
    fresh = h.fresh;
  }

  -- one that is written anew
  module _ (still : DenotesStill) (own : IsQueueLayout LAYOUT_2) (q new : RecordQueue) (stay : List WaitingJob) (go : List DroppedJob) (first : ℕ)
      (is : IsWrittenAnew image units w q new first) (h : AreCarried image units xs q stay go) where
    written : Written w.job is.plan q new first
    written = is.written

    abbrev pub taken : List ℕ
    taken = take (records_needed is.plan) q.free

    abbrev pub new_one : WaitingJob
    new_one = record { job = w.job; jct = first }

    not_taken : (n : ℕ) → is_free (shown q) n ≡ false → list_any (λ m. m == n) taken ≡ false
    not_taken n used = any_take (λ m. m == n) (records_needed is.plan) q.free used

    keeps : (job : ℕ) → KeepsRecords LAYOUT_2 job (shown q) (shown new)
    keeps job n used owner =
        let same : (shown new).at n ≡ (shown q).at n = ap bytes_or_zeros (written.others n (not_taken n used)) in
        let left : is_free (shown new) n ≡ false =
        ap (λ fs. list_any (λ m. m == n) fs) written.free ∙ any_drop (λ m. m == n) (records_needed is.plan) q.free used in
        (left, record { size = ap length same; bytes = λ k out. ap (λ r. byte_at r k) same })

    old_stays : (a b : WaitingJob) → IsCarried image units q a b → IsCarried image units new a b
    old_stays a b c = record {
      job = c.job;
      plan = c.plan;
      before = c.before;
      behind = c.behind;
      denoted = c.denoted;
      denotes = still LAYOUT_2 units (shown q) (shown new) b.job (b.jct ∷ c.behind) c.plan own (keeps b.job) c.denotes;
    }

    most_steps : q.layout.most_steps ≡ 255
    most_steps = ap (λ (l : Layout). l.most_steps) h.layout

    spelled : Denotes LAYOUT_2 units (shown new) w.job taken is.plan
    spelled =
        subst (λ (l : Layout). Denotes l units (shown new) w.job taken is.plan) h.layout
        (written.denotes units (allows 32 q.layout.most_steps units is.plan (omega (arith, is.denoted.in_range.few_steps, most_steps)) is.denoted.in_range))

    new_stands : IsCarried image units new w new_one
    new_stands =
        let front = begins_with taken first written.begins in
        record {
          job = refl;
          plan = is.plan;
          before = is.before;
          behind = front.0;
          denoted = is.denoted;
          denotes = subst (λ ns. Denotes LAYOUT_2 units (shown new) w.job ns is.plan) front.1 spelled;
        }

    taken_owned : All (λ n. owner_at new n ≡ w.job) taken
    taken_owned =
        job_owned LAYOUT_2 (shown new) w.job (λ n. owner_at new n ≡ w.job) (λ kind n o. sym (owner_seen (record_at new n)) ∙ o.of_job) taken is.plan spelled.spelled

    owned_by : (n : ℕ) → owner_at new n ≢ 0 → (b : Bool) → list_any (λ m. m == n) taken ≡ b →
        list_any (λ v. v.job == owner_at new n) (stay ++ new_one ∷ []) ≡ true
    owned_by n some true among =
        let owner : owner_at new n ≡ w.job = all_among (λ m. owner_at new m ≡ w.job) n taken taken_owned among in
        any_back (λ (v : WaitingJob). v.job == owner_at new n) stay (new_one ∷ [])
        (or_left (w.job == owner_at new n) false (eq-eqb w.job (owner_at new n) (sym owner)))
    owned_by n some false apart =
        let same : owner_at new n ≡ owner_at q n = ap owner_in (written.others n apart) in
        any_front (λ (v : WaitingJob). v.job == owner_at new n) stay (new_one ∷ [])
        (ap (λ m. list_any (λ (v : WaitingJob). v.job == m) stay) same ∙ h.owned n (λ e. some (same ∙ e)))

    fresh_by : (n : ℕ) → owner_at new n ≢ 0 → (b : Bool) → list_any (λ m. m == n) taken ≡ b → IsFresh LAYOUT_2 ((shown new).at n)
    fresh_by n some true among =
        subst (λ (l : Layout). IsFresh l ((shown new).at n)) h.layout (all_among (λ m. IsFresh q.layout ((shown new).at m)) n taken written.fresh among)
    fresh_by n some false apart =
        let there = written.others n apart in
        subst (IsFresh LAYOUT_2) (sym (ap bytes_or_zeros there)) (h.fresh n (λ e. some (ap owner_in there ∙ e)))

    pub one_kept : AreCarried image units (xs ++ w ∷ []) new (stay ++ new_one ∷ []) go
    one_kept = record {
      kept = subst (λ ws. AllZip (IsCarried image units new) ws (stay ++ new_one ∷ [])) (sym (kept_with true (ap is_none is.faultless)))
          (zip_more (IsCarried image units new) (kept_of image units xs) stay w new_one
          (zip_same (IsCarried image units q) (IsCarried image units new) old_stays (kept_of image units xs) stay h.kept) new_stands);
      dropped = h.dropped ∙ sym (dropped_with ∙ ap (λ o. dropped_of image units xs ++ dropped_for w.job o) is.faultless ∙ append-nil (dropped_of image units xs));
      layout = written.layout ∙ h.layout;
      owned = λ n some. owned_by n some (list_any (λ m. m == n) taken) refl;
      fresh = λ n some. fresh_by n some (list_any (λ m. m == n) taken) refl;
    }

none_at : (count n : ℕ) → let records : List (Option (List ℕ)) = replicate count None in get_or records n None ≡ None
none_at zero n = refl
none_at (suc count) zero = refl
none_at (suc count) (suc n) = none_at count n

empty_is : (count n : ℕ) → get_or (no_records count) n None ≡ None
unfolding no_records
empty_is count n = none_at count n

nobody_at : (n : ℕ) → owner_at (empty_queue LAYOUT_2) n ≡ 0
nobody_at zero = refl
nobody_at (suc n) = ap owner_in (empty_is LAYOUT_2.most_records n)

-- before the first job
pub none_carried : (image : List ℕ) (units : ℕ) (q : RecordQueue) (stay : List WaitingJob) (go : List DroppedJob) → q ≡ empty_queue LAYOUT_2 → HasOwnLink LAYOUT_2 →
    stay ≡ [] → go ≡ [] → AreCarried image units [] q stay go
none_carried image units q stay go empty own no_stay no_go = record {
  kept = subst (λ ws. AllZip (IsCarried image units q) [] ws) (sym no_stay) tt;
  dropped = no_go;
  layout = ap (λ (x : RecordQueue). x.layout) empty;
  owned = λ n some. absurd (some (nobody n));
  fresh = λ n some. absurd (some (nobody n));
}
  where
    nobody : (n : ℕ) → owner_at q n ≡ 0
    nobody n = ap (λ x. owner_at x n) empty ∙ nobody_at n

-- one more, which is noted
pub one_noted : (image : List ℕ) (units : ℕ) (jobs : List WaitingJob) (k : ℕ) (w : WaitingJob) (q new : RecordQueue) (stay more : List WaitingJob)
    (go gone : List DroppedJob) (told : Result ℕ ℕ) → DenotesStill → IsQueueLayout LAYOUT_2 → k < length jobs → w ≡ get_or jobs k w →
    CarriesOne image units w q new told → IsNoted w.job told stay more go gone → AreCarried image units (take k jobs) q stay go →
    AreCarried image units (take (k + 1) jobs) new more gone
one_noted image units jobs k w q new stay more go gone told still own there is one noted h =
    subst (λ ws. AreCarried image units ws new more gone) (sym (take_more jobs k w there ∙ ap (λ v. take k jobs ++ v ∷ []) (sym is))) (by told one noted)
  where
    by : (r : Result ℕ ℕ) → CarriesOne image units w q new r → IsNoted w.job r stay more go gone → AreCarried image units (take k jobs ++ w ∷ []) new more gone
    by (Ok first) one noted =
        subst (λ ds. AreCarried image units (take k jobs ++ w ∷ []) new more ds) (sym noted.1)
        (subst (λ ws. AreCarried image units (take k jobs ++ w ∷ []) new ws go) (sym noted.0)
        (one_kept image units (take k jobs) w still own q new stay go first one h))
    by (Err fault) one noted =
        subst (λ x. AreCarried image units (take k jobs ++ w ∷ []) x more gone) (sym one.1)
        (subst (λ ds. AreCarried image units (take k jobs ++ w ∷ []) q more ds) (sym noted.1)
        (subst (λ ws. AreCarried image units (take k jobs ++ w ∷ []) q ws (go ++ record { job = w.job; fault = fault } ∷ [])) (sym noted.0)
        (one_dropped image units (take k jobs) w q stay go fault one.0 h)))

-- the layout stays, and who waits
pub layout_stays : (image : List ℕ) (units : ℕ) (w : WaitingJob) (old new : RecordQueue) (told : Result ℕ ℕ) → CarriesOne image units w old new told →
    new.layout ≡ old.layout
layout_stays image units w old new (Ok first) one = one.written.layout
layout_stays image units w old new (Err fault) one = ap (λ (q : RecordQueue). q.layout) one.1

pub nobody_waits : (image : List ℕ) (units : ℕ) (w : WaitingJob) (old new : RecordQueue) (told : Result ℕ ℕ) → CarriesOne image units w old new told →
    new.waiting ≡ old.waiting
nobody_waits image units w old new (Ok first) one = one.written.waiting
nobody_waits image units w old new (Err fault) one = ap (λ (q : RecordQueue). q.waiting) one.1
