-- A queue stays sound as a record is written, taken or given back.
use Rattle.std.proofs.Common.{◌≡◌, ◌≢◌, ℕ, zero, suc, ◌+◌, ◌<◌, ◌≤◌, ◌==◌, Bool, true, false, cond, not, ◌||◌, List, [], ◌∷◌, ◌++◌, length, get_or, replicate, Option, None, Some, All, arith, ◌∙◌, ap, sym, refl, subst, length-set, get_or-set_same, get_or-set_other}
use Rattle.std.specs.Prelude.{Err, IfSome, Ok, OnErr, OnOk, Result, filter, is_none, is_some, slice_set}
use Rattle.std.specs.List.{list_any}
use Rattle.std.proofs.lemmas.Bool.{and_from, and_parts, eq-eqb, eqb-false, eqb-true, ne_eqb}
use Rattle.std.proofs.lemmas.List.{length-replicate}
use Rattle.std.proofs.lemmas.List.Elements.{All-cons, All-filter, All-head, All-nil, All-push, All-same, All-tail, All-weaker}
use Rattle.cb_meaning.specs.declared.layout.Layout.{Layout}
use Rattle.cb_meaning.specs.Fields.{field, number_at}
use Rattle.cb_meaning.specs.Walks.{is_free, owner_of}
use Rattle.queue_core.specs.declared.queue.Queued.{Queued}
use Rattle.cb_queue.specs.RecordQueues.{AreInOrder, HasOwnLink, IsInUse, IsQueued, IsSoundQueue, RecordQueue, bytes_or_zeros, empty_queue, first_numbers, first_taken, given_back, no_records, owner_at, owner_in, record_at, shown, taken, with_record_at, zero_record}
use Rattle.plain.specs.Lists.{are_different, numbers_from}

-- a number is in a list
abbrev pub member : ℕ → List ℕ → Bool
member n xs = list_any (λ f. f == n) xs

abbrev pub is_number : ℕ → ℕ → Type 0
is_number most n = (1 ≤ n) × (n ≤ most)

pub used_of : (o : Option (List ℕ)) → owner_in o ≢ 0 → is_some o ≡ true
used_of None h = absurd (h refl)
used_of (Some r) h = refl

some_is_not_none : {A : Type 0} (o : Option A) → is_some o ≡ true → is_none o ≡ false
some_is_not_none None e = cc
some_is_not_none (Some x) e = refl

none_owns : (o : Option (List ℕ)) → is_none o ≡ true → owner_in o ≡ 0
none_owns None e = refl
none_owns (Some r) e = cc

-- where something stands, the list reaches
pub reaches : {A : Type 0} (xs : List (Option A)) (i : ℕ) → is_some (get_or xs i None) ≡ true → i < length xs
reaches [] i e = cc
reaches (x ∷ xs) zero e = omega arith
reaches (x ∷ xs) (suc i) e = let rest = reaches xs i e in omega arith

-- what two facts give of each job
pub each : (P Q R : Queued → Type 0) → ((x : Queued) → P x → Q x → R x) → (xs : List Queued) → All P xs → All Q xs → All R xs
each P Q R both [] p q = All-nil R
each P Q R both (x ∷ xs) p q =
    All-cons R x xs (both x (All-head P x xs p) (All-head Q x xs q)) (each P Q R both xs (All-tail P x xs p) (All-tail Q x xs q))

-- record i + 1 is another, and other records are free
module _ (q : RecordQueue) (i : ℕ) (o : Option (List ℕ)) (free : List ℕ) where
  abbrev changed : RecordQueue
  changed = record q { records = slice_set q.records i o; free = free }

  at_other : (j : ℕ) (b : Bool) → (suc j == suc i) ≡ b → i < length q.records → get_or (slice_set q.records i o) j None ≡ cond b o (get_or q.records j None)
  at_other j true e h =
      let is : j ≡ i = (let s = eqb-true (suc j) (suc i) e in omega (arith, s)) in
      ap (λ k. get_or (slice_set q.records i o) k None) is ∙ get_or-set_same q.records i o None h
  at_other j false e h =
      let apart : j ≡ i → ⊥ = λ is. eqb-false (suc j) (suc i) e (ap suc is) in
      get_or-set_other q.records i j o None apart

  -- a job that waits keeps its first record
  abbrev Leaves : Queued → Type 0
  Leaves x = x.jct ≡ suc i → owner_in o ≡ x.job

  still_queued : i < length q.records → (x : Queued) → IsQueued q x → Leaves x → IsQueued changed x
  still_queued here x h leaves = record { job = h.job; owner = by x.jct refl; class = h.class; priority = h.priority }
    where
      at : (j : ℕ) (b : Bool) → x.jct ≡ suc j → (suc j == suc i) ≡ b → owner_at changed (suc j) ≡ x.job
      at j true is e = ap owner_in (at_other j true e here) ∙ leaves (is ∙ eqb-true (suc j) (suc i) e)
      at j false is e = ap owner_in (at_other j false e here) ∙ ap (owner_at q) (sym is) ∙ h.owner

      by : (n : ℕ) → x.jct ≡ n → owner_at changed x.jct ≡ x.job
      by zero is = ap (owner_at changed) is ∙ ap (owner_at q) (sym is) ∙ h.owner
      by (suc j) is = ap (owner_at changed) is ∙ at j (suc j == suc i) is refl

  module _ (h : IsSoundQueue q) (here : i < length q.records) (once : are_different free ≡ true) (within : All (is_number q.layout.most_records) free)
      (members : (m : ℕ) → member m free ≡ cond (m == suc i) (is_none o) (member m q.free)) (used : IfSome o (IsInUse q.layout)) (leave : All Leaves q.waiting) where
    is_free_at : (m : ℕ) → 1 ≤ m → m ≤ q.layout.most_records → member m free ≡ is_none (record_at changed m)
    is_free_at zero from to = absurd (omega (arith, from))
    is_free_at (suc j) from to = by (suc j == suc i) refl
      where
        by : (b : Bool) → (suc j == suc i) ≡ b → member (suc j) free ≡ is_none (get_or (slice_set q.records i o) j None)
        by true e = members (suc j) ∙ ap (λ b. cond b (is_none o) (member (suc j) q.free)) e ∙ sym (ap is_none (at_other j true e here))
        by false e =
            members (suc j) ∙ ap (λ b. cond b (is_none o) (member (suc j) q.free)) e ∙ h.free (suc j) from to ∙ sym (ap is_none (at_other j false e here))

    in_use_at : (m : ℕ) → IfSome (record_at changed m) (IsInUse q.layout)
    in_use_at zero = tt
    in_use_at (suc j) = by (suc j == suc i) refl
      where
        by : (b : Bool) → (suc j == suc i) ≡ b → IfSome (get_or (slice_set q.records i o) j None) (IsInUse q.layout)
        by true e = subst (λ r. IfSome r (IsInUse q.layout)) (sym (at_other j true e here)) used
        by false e = subst (λ r. IfSome r (IsInUse q.layout)) (sym (at_other j false e here)) (h.in_use (suc j))

    pub sound_changed : IsSoundQueue changed
    sound_changed = record {
      own_link = h.own_link;
      size = length-set q.records i o ∙ h.size;
      once = once;
      within = within;
      free = is_free_at;
      in_use = in_use_at;
      in_order = h.in_order;
      queued = each (IsQueued q) Leaves (IsQueued changed) (still_queued here) q.waiting h.queued leave;
    }

-- a number is free exactly where its record is none
free_none : (q : RecordQueue) (i : ℕ) → IsSoundQueue q → is_some (record_at q (suc i)) ≡ true → member (suc i) q.free ≡ false
free_none q i h used =
    let here = reaches q.records i used in
    let size = h.size in
    h.free (suc i) (omega arith) (omega (arith, here, size)) ∙ some_is_not_none (record_at q (suc i)) used

-- a record in use is written anew
pub sound_put : (q : RecordQueue) (i : ℕ) (r : List ℕ) → IsSoundQueue q → is_some (record_at q (suc i)) ≡ true → IsInUse q.layout r →
    number_at r (field 2 2) ≡ owner_at q (suc i) → IsSoundQueue (with_record_at q (suc i) (Some r))
sound_put q i r h used u same = sound_changed q i (Some r) q.free h (reaches q.records i used) h.once h.within (λ m. by m (m == suc i) refl) u
    (All-weaker (IsQueued q) (Leaves q i (Some r) q.free) (λ x own is. same ∙ ap (owner_at q) (sym is) ∙ own.owner) q.waiting h.queued)
  where
    by : (m : ℕ) (b : Bool) → (m == suc i) ≡ b → member m q.free ≡ cond b false (member m q.free)
    by m true e = ap (λ k. member k q.free) (eqb-true m (suc i) e) ∙ free_none q i h used
    by m false e = refl

-- the next free one is taken
module _ (q : RecordQueue) (i owner : ℕ) (rest : List ℕ) (h : IsSoundQueue q) (first : q.free ≡ suc i ∷ rest) where
  parts : (not (member (suc i) rest) ≡ true) × (are_different rest ≡ true)
  parts = and_parts _ _ (sym (ap are_different first) ∙ h.once)

  not_again : member (suc i) rest ≡ false
  not_again = by (member (suc i) rest) parts.0
    where
      by : (b : Bool) → not b ≡ true → b ≡ false
      by true e = cc
      by false e = refl

  numbers : All (is_number q.layout.most_records) (suc i ∷ rest)
  numbers = All-same (is_number q.layout.most_records) (suc i ∷ rest) q.free (sym first) h.within

  pub first_here : i < length q.records
  first_here = let n = All-head (is_number q.layout.most_records) (suc i) rest numbers in let size = h.size in omega (arith, n.1, size)

  -- it has no owner yet
  pub first_free : owner_in (record_at q (suc i)) ≡ 0
  first_free =
      let n = All-head (is_number q.layout.most_records) (suc i) rest numbers in
      let there : member (suc i) q.free ≡ true = ap (member (suc i)) first ∙ ap (λ b. b || member (suc i) rest) (eq-eqb (suc i) (suc i) refl) in
      none_owns (record_at q (suc i)) (sym (h.free (suc i) n.0 n.1) ∙ there)

  members : (m : ℕ) (b : Bool) → (m == suc i) ≡ b → member m rest ≡ cond b false (member m q.free)
  members m true e = ap (λ k. member k rest) (eqb-true m (suc i) e) ∙ not_again
  members m false e =
      let other : (suc i == m) ≡ false = ne_eqb (suc i) m (λ is. eqb-false m (suc i) e (sym is)) in
      sym (ap (member m) first ∙ ap (λ b. b || member m rest) other)

  pub sound_taken : IsInUse q.layout (zero_record owner) → IsSoundQueue (taken q owner)
  sound_taken u =
      subst (λ free. IsSoundQueue (first_taken q owner free)) (sym first)
      (sound_changed q i (Some (zero_record owner)) rest h first_here parts.1 (All-tail (is_number q.layout.most_records) (suc i) rest numbers)
      (λ m. members m (m == suc i) refl) u
      (All-weaker (IsQueued q) (Leaves q i (Some (zero_record owner)) rest)
      (λ x own is. absurd (own.job (sym own.owner ∙ ap (owner_at q) is ∙ first_free))) q.waiting h.queued))

-- one in use is given back
pub sound_given : (q : RecordQueue) (i : ℕ) → IsSoundQueue q → is_some (record_at q (suc i)) ≡ true → All (λ x. x.jct ≢ suc i) q.waiting →
    IsSoundQueue (given_back q (suc i))
sound_given q i h used unqueued =
    let here = reaches q.records i used in
    let size = h.size in
    let absent = free_none q i h used in
    sound_changed q i None (suc i ∷ q.free) h here (and_from _ _ (ap not absent) h.once)
    (All-cons (is_number q.layout.most_records) (suc i) q.free (omega arith, omega (arith, here, size)) h.within) (λ m. by m (m == suc i) refl) tt
    (All-weaker (λ x. x.jct ≢ suc i) (Leaves q i None (suc i ∷ q.free)) (λ x other is. absurd (other is)) q.waiting unqueued)
  where
    by : (m : ℕ) (b : Bool) → (m == suc i) ≡ b → ((suc i == m) || member m q.free) ≡ cond b true (member m q.free)
    by m true e = ap (λ b. b || member m q.free) (eq-eqb (suc i) m (sym (eqb-true m (suc i) e)))
    by m false e = ap (λ b. b || member m q.free) (ne_eqb (suc i) m (λ is. eqb-false m (suc i) e (sym is)))

-- other jobs wait
pub sound_waiting : (q : RecordQueue) (waiting : List Queued) → IsSoundQueue q → AreInOrder waiting → All (IsQueued q) waiting → IsSoundQueue (record q { waiting = waiting })
sound_waiting q waiting h order queued = record {
  own_link = h.own_link;
  size = h.size;
  once = h.once;
  within = h.within;
  free = h.free;
  in_use = h.in_use;
  in_order = order;
  queued = All-weaker (IsQueued q) (IsQueued (record q { waiting = waiting }))
      (λ x own. record { job = own.job; owner = own.owner; class = own.class; priority = own.priority }) waiting queued;
}

pub order_entered : (xs : List Queued) (x : Queued) → AreInOrder xs → All (λ y. y.job < x.job) xs → AreInOrder (xs ++ x ∷ [])
order_entered [] x h later = (All-nil (λ y. x.job < y.job), tt)
order_entered (y ∷ ys) x h later =
    (All-push (λ z. y.job < z.job) ys x h.0 (All-head (λ z. z.job < x.job) y ys later), order_entered ys x h.1 (All-tail (λ z. z.job < x.job) y ys later))

pub order_left : (p : Queued → Bool) (xs : List Queued) → AreInOrder xs → AreInOrder (filter p xs)
order_left p [] h = tt
order_left p (x ∷ xs) h = by (p x) (order_left p xs h.1)
  where
    by : (b : Bool) → AreInOrder (filter p xs) → AreInOrder (cond b (x ∷ filter p xs) (filter p xs))
    by true rest = (All-filter p (λ y. x.job < y.job) xs h.0, rest)
    by false rest = rest

pub order_after : {E : Type 0} (old new : List Queued) (x : Queued) (r : Result (Unit {0}) E) → OnOk r (new ≡ old ++ x ∷ []) → OnErr r (new ≡ old) → AreInOrder old →
    All (λ y. y.job < x.job) old → AreInOrder new
order_after old new x (Ok u) ok err h later = subst AreInOrder (sym ok) (order_entered old x h later)
order_after old new x (Err e) ok err h later = subst AreInOrder (sym err) h

pub queued_after : {E : Type 0} (q : RecordQueue) (old new : List Queued) (x : Queued) (r : Result (Unit {0}) E) → OnOk r (new ≡ old ++ x ∷ []) → OnErr r (new ≡ old) →
    All (IsQueued q) old → IsQueued q x → All (IsQueued q) new
queued_after q old new x (Ok u) ok err h own = subst (All (IsQueued q)) (sym ok) (All-push (IsQueued q) old x h own)
queued_after q old new x (Err e) ok err h own = subst (All (IsQueued q)) (sym err) h

-- all are free
member_above : (n m count : ℕ) → m < n → member m (numbers_from n count) ≡ false
member_above n m zero h = refl
member_above n m (suc count) h =
    ap (λ b. b || member m (numbers_from (n + 1) count)) (ne_eqb n m (λ is. absurd (omega (arith, is, h)))) ∙ member_above (n + 1) m count (omega (arith, h))

member_among : (n m count : ℕ) → n ≤ m → m < n + count → member m (numbers_from n count) ≡ true
member_among n m zero from to = absurd (omega (arith, from, to))
member_among n m (suc count) from to = by (n == m) refl (λ next. member_among (n + 1) m count next (omega (arith, to)))
  where
    by : (b : Bool) → (n == m) ≡ b → (n + 1 ≤ m → member m (numbers_from (n + 1) count) ≡ true) → (b || member m (numbers_from (n + 1) count)) ≡ true
    by true e rest = refl
    by false e rest = let apart : n ≢ m = eqb-false n m e in rest (omega (arith, from, apart))

different_from : (n count : ℕ) → are_different (numbers_from n count) ≡ true
different_from n zero = refl
different_from n (suc count) = and_from _ _ (ap not (member_above (n + 1) n count (omega arith))) (different_from (n + 1) count)

numbers_within : (n count most : ℕ) → 1 ≤ n → n + count ≤ most + 1 → All (is_number most) (numbers_from n count)
numbers_within n zero most from to = All-nil (is_number most)
numbers_within n (suc count) most from to =
    All-cons (is_number most) n (numbers_from (n + 1) count) (from, omega (arith, to)) (numbers_within (n + 1) count most (omega arith) (omega (arith, to)))

none_at : (count i : ℕ) → get_or (replicate {A = Option (List ℕ)} count None) i None ≡ None
none_at zero i = refl
none_at (suc count) zero = refl
none_at (suc count) (suc i) = none_at count i

abbrev fresh : Layout → RecordQueue
fresh l = record { layout = l; records = replicate l.most_records None; free = numbers_from 1 l.most_records; waiting = [] }

sound_fresh : (l : Layout) → HasOwnLink l → IsSoundQueue (fresh l)
sound_fresh l own = record {
  own_link = own;
  size = length-replicate l.most_records None;
  once = different_from 1 l.most_records;
  within = numbers_within 1 l.most_records l.most_records (omega arith) (omega arith);
  free = all_free;
  in_use = none_used;
  in_order = tt;
  queued = All-nil (IsQueued (fresh l));
}
  where
    all_free : (n : ℕ) → 1 ≤ n → n ≤ l.most_records → member n (numbers_from 1 l.most_records) ≡ is_none (record_at (fresh l) n)
    all_free zero from to = absurd (omega (arith, from))
    all_free (suc i) from to = member_among 1 (suc i) l.most_records from (omega (arith, to)) ∙ sym (ap is_none (none_at l.most_records i))

    none_used : (n : ℕ) → IfSome (record_at (fresh l) n) (IsInUse l)
    none_used zero = tt
    none_used (suc i) = subst (λ r. IfSome r (IsInUse l)) (sym (none_at l.most_records i)) tt

pub sound_empty : (l : Layout) → HasOwnLink l → IsSoundQueue (empty_queue l)
unfolding first_numbers no_records
sound_empty l own = sound_fresh l own

-- a member is as all are
member_is : (P : ℕ → Type 0) (xs : List ℕ) (n : ℕ) → All P xs → member n xs ≡ true → P n
member_is P [] n h e = cc
member_is P (x ∷ xs) n h e = by (x == n) refl e (member_is P xs n (All-tail P x xs h))
  where
    by : (b : Bool) → (x == n) ≡ b → (b || member n xs) ≡ true → (member n xs ≡ true → P n) → P n
    by true is e rest = subst P (eqb-true x n is) (All-head P x xs h)
    by false is e rest = rest e

pub shows_owner : (q : RecordQueue) → IsSoundQueue q → (n : ℕ) → owner_of (shown q) n ≡ owner_at q n
shows_owner q h n = by (is_free (shown q) n) refl
  where
    of_bytes : (o : Option (List ℕ)) → number_at (bytes_or_zeros o) (field 2 2) ≡ owner_in o
    of_bytes None = refl
    of_bytes (Some r) = refl

    by : (b : Bool) → is_free (shown q) n ≡ b → cond b 0 (number_at (bytes_or_zeros (record_at q n)) (field 2 2)) ≡ owner_at q n
    by true e =
        let number = member_is (is_number q.layout.most_records) q.free n h.within e in
        sym (none_owns (record_at q n) (sym (h.free n number.0 number.1) ∙ e))
    by false e = of_bytes (record_at q n)
