-- The ranks of jobs, as one enters or is taken out.
use Rattle.std.proofs.Common.{◌≡◌, ◌≢◌, ◌<◌, ◌≤◌, ◌==◌, ℕ, Bool, true, false, cond, List, [], ◌∷◌, ◌++◌, Option, Some, None, All, length, refl, sym, ap, ◌∙◌, subst}
use Rattle.std.specs.Prelude.{IfSome, MatchOption, get_or, is_some, nat_lt, replicate, slice_set}
use Rattle.std.specs.BTreeMap.{BTreeMap, IsOrdered, get, is_at, Updates}
use Rattle.std.specs.BTreeSet.{BTreeSet, contains, Updates as SetUpdates}
use Rattle.std.specs.List.Sorted.{IsStrictlySortedBy}
use Rattle.std.specs.Map.{keys_of, lookup, remove_entry}
use Rattle.std.specs.Ordering.{nat_cmp}
use Rattle.std.proofs.lemmas.Bool.{both_ways, eqb-false, eqb-true, ltb-false, ltb-true}
use Rattle.std.proofs.lemmas.List.{get_or-replicate, get_or-set_other, get_or-set_same, get_or_past, length-replicate}
use Rattle.std.proofs.lemmas.List.Elements.{All-nil, All-push, All-same}
use Rattle.queue_core.specs.declared.queue.Queued.{Queued}
use Rattle.queue_core.specs.declared.queue.Rank.{Rank}
use Rattle.queue_core.specs.Ranks.{AreBounded, AreNumbered, IsLeast, IsRanked, IsVacant, queued_of, rank_cmp, rank_of}
use Rattle.queue_core.proofs.Numbered.{All-removed, at_own, job_at, numbered_at}
use Rattle.queue_core.proofs.Orders.{at_itself, rank_at}

abbrev pub number_of : Queued → ℕ
number_of q = q.job

-- a look-up that found, and one that did not
pub some_is : {X : Type 0} (P : X → Type 0) (o : Option X) (x : X) → IfSome o P → o ≡ Some x → P x
some_is P o x h e = subst (λ r. IfSome r P) e h

pub if_some : {X : Type 0} (P : X → Type 0) (o : Option X) → ((x : X) → o ≡ Some x → P x) → IfSome o P
if_some P None h = tt
if_some P (Some x) h = h x refl

pub not_some : {X : Type 0} {A : Type 0} (o : Option X) (x : X) → o ≡ None → o ≡ Some x → A
not_some o x n s = cc

pub none_is : {X : Type 0} (P : Type 0) (o : Option X) → is_some o ≡ false → MatchOption o P (λ x. Unit {0}) → P
none_is P None e h = h
none_is P (Some x) e h = cc

-- a class of which a rank was found has one
pub not_vacant : (ranks : BTreeSet Rank) (class : ℕ) (o : Option Queued) → is_some o ≡ true → IfSome o (IsLeast ranks class) → ¬ IsVacant ranks class
not_vacant ranks class None e h vacant = cc
not_vacant ranks class (Some q) e h vacant = both_ways (contains rank_cmp ranks (rank_of q)) (vacant (rank_of q) h.of_class) h.there

-- a job entered
module _ (jobs jobs_now : BTreeMap ℕ Queued) (ranks ranks_now : BTreeSet Rank) (occupied : List Bool) (q : Queued) where
  ranked_more : IsRanked jobs ranks occupied → Updates nat_cmp jobs jobs_now q.job (Some q) → SetUpdates rank_cmp ranks ranks_now (rank_of q) true →
      (k : ℕ) (x : Queued) → get nat_cmp jobs_now k ≡ Some x → contains rank_cmp ranks_now (rank_of x) ≡ true
  ranked_more h u v k x e = by (is_at (nat_cmp q.job) k) (is_at (rank_cmp (rank_of q)) (rank_of x)) refl refl
    where
      by : (at same : Bool) → is_at (nat_cmp q.job) k ≡ at → is_at (rank_cmp (rank_of q)) (rank_of x) ≡ same → contains rank_cmp ranks_now (rank_of x) ≡ true
      by at true a s = v.0 (rank_of x) ∙ ap (λ b. cond b true (contains rank_cmp ranks (rank_of x))) s
      by true false a s =
          let found : Some q ≡ Some x = sym (u.0 k ∙ ap (λ b. cond b (Some q) (get nat_cmp jobs k)) a) ∙ e in
          let is : q ≡ x = cc in
          absurd (both_ways _ s (ap (λ y. is_at (rank_cmp (rank_of q)) (rank_of y)) (sym is) ∙ at_itself (rank_of q)))
      by false false a s =
          let was : get nat_cmp jobs k ≡ Some x = sym (u.0 k ∙ ap (λ b. cond b (Some q) (get nat_cmp jobs k)) a) ∙ e in
          v.0 (rank_of x) ∙ ap (λ b. cond b true (contains rank_cmp ranks (rank_of x))) s ∙ some_is (λ y. contains rank_cmp ranks (rank_of y) ≡ true) (get nat_cmp jobs k) x (h.ranked k) was

  queued_more : IsRanked jobs ranks occupied → get nat_cmp jobs q.job ≡ None → Updates nat_cmp jobs jobs_now q.job (Some q) → SetUpdates rank_cmp ranks ranks_now (rank_of q) true →
      (r : Rank) → contains rank_cmp ranks_now r ≡ true → get nat_cmp jobs_now r.job ≡ Some (queued_of r)
  queued_more h none u v r e = by (is_at (rank_cmp (rank_of q)) r) (is_at (nat_cmp q.job) r.job) refl refl
    where
      by : (same at : Bool) → is_at (rank_cmp (rank_of q)) r ≡ same → is_at (nat_cmp q.job) r.job ≡ at → get nat_cmp jobs_now r.job ≡ Some (queued_of r)
      by true at s a =
          let is : rank_of q ≡ r = rank_at (rank_of q) r s in
          subst (λ (y : Rank). get nat_cmp jobs_now y.job ≡ Some (queued_of y)) is (u.0 q.job ∙ ap (λ b. cond b (Some q) (get nat_cmp jobs q.job)) (at_own q.job))
      by false true s a =
          let was : contains rank_cmp ranks r ≡ true = sym (v.0 r ∙ ap (λ b. cond b true (contains rank_cmp ranks r)) s) ∙ e in
          not_some (get nat_cmp jobs r.job) (queued_of r) (ap (get nat_cmp jobs) (sym (job_at q.job r.job a)) ∙ none) (h.queued r was)
      by false false s a =
          let was : contains rank_cmp ranks r ≡ true = sym (v.0 r ∙ ap (λ b. cond b true (contains rank_cmp ranks r)) s) ∙ e in
          u.0 r.job ∙ ap (λ b. cond b (Some q) (get nat_cmp jobs r.job)) a ∙ h.queued r was

  bounded_more : AreBounded ranks → q.priority ≤ 255 → SetUpdates rank_cmp ranks ranks_now (rank_of q) true → AreBounded ranks_now
  bounded_more h most v = λ r e. by r (is_at (rank_cmp (rank_of q)) r) refl e
    where
      by : (r : Rank) (same : Bool) → is_at (rank_cmp (rank_of q)) r ≡ same → contains rank_cmp ranks_now r ≡ true → r.priority.0 ≤ 255
      by r true s e = subst (λ (y : Rank). y.priority.0 ≤ 255) (rank_at (rank_of q) r s) most
      by r false s e = h r (sym (v.0 r ∙ ap (λ b. cond b true (contains rank_cmp ranks r)) s) ∙ e)

  marked_more : IsRanked jobs ranks occupied → q.class < length occupied → Updates nat_cmp jobs jobs_now q.job (Some q) →
      (k : ℕ) (x : Queued) → get nat_cmp jobs_now k ≡ Some x → get_or (slice_set occupied q.class true) x.class false ≡ true
  marked_more h fits u k x e = by (is_at (nat_cmp q.job) k) (x.class == q.class) refl refl
    where
      by : (at same : Bool) → is_at (nat_cmp q.job) k ≡ at → (x.class == q.class) ≡ same → get_or (slice_set occupied q.class true) x.class false ≡ true
      by at true a s = ap (λ c. get_or (slice_set occupied q.class true) c false) (eqb-true x.class q.class s) ∙ get_or-set_same occupied q.class true false fits
      by true false a s =
          let found : Some q ≡ Some x = sym (u.0 k ∙ ap (λ b. cond b (Some q) (get nat_cmp jobs k)) a) ∙ e in
          let is : q ≡ x = cc in
          absurd (eqb-false x.class q.class s (ap (λ (y : Queued). y.class) (sym is)))
      by false false a s =
          let was : get nat_cmp jobs k ≡ Some x = sym (u.0 k ∙ ap (λ b. cond b (Some q) (get nat_cmp jobs k)) a) ∙ e in
          get_or-set_other occupied q.class x.class true false (eqb-false x.class q.class s) ∙ some_is (λ y. get_or occupied y.class false ≡ true) (get nat_cmp jobs k) x (h.marked k) was

  occupied_more : IsRanked jobs ranks occupied → q.class < length occupied → SetUpdates rank_cmp ranks ranks_now (rank_of q) true →
      (class : ℕ) → get_or (slice_set occupied q.class true) class false ≡ true → ¬ IsVacant ranks_now class
  occupied_more h fits v class marked vacant = by (class == q.class) refl
    where
      there : contains rank_cmp ranks_now (rank_of q) ≡ true
      there = v.0 (rank_of q) ∙ ap (λ b. cond b true (contains rank_cmp ranks (rank_of q))) (at_itself (rank_of q))

      had_none : (r : Rank) → r.class ≡ class → contains rank_cmp ranks r ≡ false
      had_none r is = at (is_at (rank_cmp (rank_of q)) r) refl
        where
          at : (same : Bool) → is_at (rank_cmp (rank_of q)) r ≡ same → contains rank_cmp ranks r ≡ false
          at true s = absurd (both_ways (contains rank_cmp ranks_now r) (vacant r is) (v.0 r ∙ ap (λ b. cond b true (contains rank_cmp ranks r)) s))
          at false s = sym (v.0 r ∙ ap (λ b. cond b true (contains rank_cmp ranks r)) s) ∙ vacant r is

      by : (same : Bool) → (class == q.class) ≡ same → ⊥
      by true s = both_ways (contains rank_cmp ranks_now (rank_of q)) (vacant (rank_of q) (sym (eqb-true class q.class s))) there
      by false s = h.has_job class (sym (get_or-set_other occupied q.class class true false (eqb-false class q.class s)) ∙ marked) had_none

  pub entered : IsRanked jobs ranks occupied → q.priority ≤ 255 → q.class < length occupied → get nat_cmp jobs q.job ≡ None →
      jobs_now.entries ≡ jobs.entries ++ (q.job, q) ∷ [] → IsOrdered nat_cmp jobs_now → Updates nat_cmp jobs jobs_now q.job (Some q) →
      SetUpdates rank_cmp ranks ranks_now (rank_of q) true → IsRanked jobs_now ranks_now (slice_set occupied q.class true)
  entered h most fits none is ordered u v = record {
    ordered = ordered;
    numbered = All-same AreNumbered jobs_now.entries (jobs.entries ++ (q.job, q) ∷ []) is (All-push AreNumbered jobs.entries (q.job, q) h.numbered refl);
    ranked = λ k. if_some (λ x. contains rank_cmp ranks_now (rank_of x) ≡ true) (get nat_cmp jobs_now k) (ranked_more h u v k);
    queued = queued_more h none u v;
    bounded = bounded_more h.bounded most v;
    marked = λ k. if_some (λ x. get_or (slice_set occupied q.class true) x.class false ≡ true) (get nat_cmp jobs_now k) (marked_more h fits u k);
    has_job = occupied_more h fits v;
  }

-- a rank was put in and taken out again
module _ (jobs jobs_now : BTreeMap ℕ Queued) (ranks mid ranks_now : BTreeSet Rank) (occupied : List Bool) (q : Queued) where
  as_before : IsRanked jobs ranks occupied → get nat_cmp jobs q.job ≡ None → SetUpdates rank_cmp ranks mid (rank_of q) true → SetUpdates rank_cmp mid ranks_now (rank_of q) false →
      (r : Rank) → contains rank_cmp ranks_now r ≡ contains rank_cmp ranks r
  as_before h none u v r = by (is_at (rank_cmp (rank_of q)) r) (contains rank_cmp ranks r) refl refl
    where
      by : (same had : Bool) → is_at (rank_cmp (rank_of q)) r ≡ same → contains rank_cmp ranks r ≡ had → contains rank_cmp ranks_now r ≡ contains rank_cmp ranks r
      by true true s c = not_some (get nat_cmp jobs r.job) (queued_of r) (ap (λ (y : Rank). get nat_cmp jobs y.job) (sym (rank_at (rank_of q) r s)) ∙ none) (h.queued r c)
      by true false s c = v.0 r ∙ ap (λ b. cond b false (contains rank_cmp mid r)) s ∙ sym c
      by false had s c = v.0 r ∙ ap (λ b. cond b false (contains rank_cmp mid r)) s ∙ u.0 r ∙ ap (λ b. cond b true (contains rank_cmp ranks r)) s

  pub undone : IsRanked jobs ranks occupied → jobs_now.entries ≡ jobs.entries → get nat_cmp jobs q.job ≡ None → SetUpdates rank_cmp ranks mid (rank_of q) true → SetUpdates rank_cmp mid ranks_now (rank_of q) false →
      IsRanked jobs_now ranks_now occupied
  undone h same none u v =
      let before = as_before h none u v in
      let found : (k : ℕ) → get nat_cmp jobs k ≡ get nat_cmp jobs_now k = λ k. ap (lookup (is_at (nat_cmp k))) (sym same) in
      record {
        ordered = subst (λ es. IsStrictlySortedBy nat_cmp (keys_of es)) (sym same) h.ordered;
        numbered = subst (All AreNumbered) (sym same) h.numbered;
        ranked = λ k. if_some (λ x. contains rank_cmp ranks_now (rank_of x) ≡ true) (get nat_cmp jobs_now k)
            (λ x e. before (rank_of x) ∙ some_is (λ y. contains rank_cmp ranks (rank_of y) ≡ true) (get nat_cmp jobs k) x (h.ranked k) (found k ∙ e));
        queued = λ r e. sym (found r.job) ∙ h.queued r (sym (before r) ∙ e);
        bounded = λ r e. h.bounded r (sym (before r) ∙ e);
        marked = λ k. subst (λ o. IfSome o (λ q. get_or occupied q.class false ≡ true)) (found k) (h.marked k);
        has_job = λ class marked vacant. h.has_job class marked (λ r is. sym (before r) ∙ vacant r is);
      }

-- a job is taken out
module _ (jobs jobs_now : BTreeMap ℕ Queued) (ranks ranks_now : BTreeSet Rank) (occupied : List Bool) (job : ℕ) (q : Queued) where
  still : Updates nat_cmp jobs jobs_now job None → (k : ℕ) (x : Queued) → get nat_cmp jobs_now k ≡ Some x → (get nat_cmp jobs k ≡ Some x) × (is_at (nat_cmp job) k ≡ false)
  still u k x e = by (is_at (nat_cmp job) k) refl
    where
      by : (at : Bool) → is_at (nat_cmp job) k ≡ at → (get nat_cmp jobs k ≡ Some x) × (is_at (nat_cmp job) k ≡ false)
      by true a = not_some (get nat_cmp jobs_now k) x (u.0 k ∙ ap (λ b. cond b None (get nat_cmp jobs k)) a) e
      by false a = (sym (u.0 k ∙ ap (λ b. cond b None (get nat_cmp jobs k)) a) ∙ e, a)

  kept : SetUpdates rank_cmp ranks ranks_now (rank_of q) false → (r : Rank) → contains rank_cmp ranks_now r ≡ true →
      (contains rank_cmp ranks r ≡ true) × (is_at (rank_cmp (rank_of q)) r ≡ false)
  kept v r e = by (is_at (rank_cmp (rank_of q)) r) refl
    where
      by : (same : Bool) → is_at (rank_cmp (rank_of q)) r ≡ same → (contains rank_cmp ranks r ≡ true) × (is_at (rank_cmp (rank_of q)) r ≡ false)
      by true s = absurd (both_ways (contains rank_cmp ranks_now r) (v.0 r ∙ ap (λ b. cond b false (contains rank_cmp ranks r)) s) e)
      by false s = (sym (v.0 r ∙ ap (λ b. cond b false (contains rank_cmp ranks r)) s) ∙ e, s)

  pub bounded_less : AreBounded ranks → SetUpdates rank_cmp ranks ranks_now (rank_of q) false → AreBounded ranks_now
  bounded_less h v = λ r e. h r (kept v r e).0

  ranked_less : IsRanked jobs ranks occupied → get nat_cmp jobs job ≡ Some q → Updates nat_cmp jobs jobs_now job None → SetUpdates rank_cmp ranks ranks_now (rank_of q) false →
      (k : ℕ) (x : Queued) → get nat_cmp jobs_now k ≡ Some x → contains rank_cmp ranks_now (rank_of x) ≡ true
  ranked_less h had u v k x e = by (is_at (rank_cmp (rank_of q)) (rank_of x)) refl
    where
      was : get nat_cmp jobs k ≡ Some x
      was = (still u k x e).0

      by : (same : Bool) → is_at (rank_cmp (rank_of q)) (rank_of x) ≡ same → contains rank_cmp ranks_now (rank_of x) ≡ true
      by true s =
          let numbers : job ≡ k = sym (numbered_at number_of jobs job q h.numbered had) ∙ ap (λ (r : Rank). r.job) (rank_at (rank_of q) (rank_of x) s) ∙ numbered_at number_of jobs k x h.numbered was in
          absurd (both_ways (is_at (nat_cmp job) k) (still u k x e).1 (ap (is_at (nat_cmp job)) (sym numbers) ∙ at_own job))
      by false s = v.0 (rank_of x) ∙ ap (λ b. cond b false (contains rank_cmp ranks (rank_of x))) s ∙ some_is (λ y. contains rank_cmp ranks (rank_of y) ≡ true) (get nat_cmp jobs k) x (h.ranked k) was

  queued_less : IsRanked jobs ranks occupied → get nat_cmp jobs job ≡ Some q → Updates nat_cmp jobs jobs_now job None → SetUpdates rank_cmp ranks ranks_now (rank_of q) false →
      (r : Rank) → contains rank_cmp ranks_now r ≡ true → get nat_cmp jobs_now r.job ≡ Some (queued_of r)
  queued_less h had u v r e = by (is_at (nat_cmp job) r.job) refl
    where
      was : get nat_cmp jobs r.job ≡ Some (queued_of r)
      was = h.queued r (kept v r e).0

      by : (at : Bool) → is_at (nat_cmp job) r.job ≡ at → get nat_cmp jobs_now r.job ≡ Some (queued_of r)
      by true a =
          let found : Some q ≡ Some (queued_of r) = sym had ∙ ap (get nat_cmp jobs) (job_at job r.job a) ∙ was in
          let is : q ≡ queued_of r = cc in
          absurd (both_ways (is_at (rank_cmp (rank_of q)) r) (kept v r e).1 (ap (λ y. is_at (rank_cmp (rank_of y)) r) is ∙ at_itself r))
      by false a = u.0 r.job ∙ ap (λ b. cond b None (get nat_cmp jobs r.job)) a ∙ was

  module _ (h : IsRanked jobs ranks occupied) (had : get nat_cmp jobs job ≡ Some q) (is : jobs_now.entries ≡ remove_entry (is_at (nat_cmp job)) jobs.entries) (ordered : IsOrdered nat_cmp jobs_now)
      (u : Updates nat_cmp jobs jobs_now job None) (v : SetUpdates rank_cmp ranks ranks_now (rank_of q) false) where
    -- a class of which no rank is left, where another's is taken out, had none
    had_none : (class : ℕ) → class ≢ q.class → IsVacant ranks_now class → IsVacant ranks class
    had_none class other vacant r is = at (is_at (rank_cmp (rank_of q)) r) refl
      where
        at : (same : Bool) → is_at (rank_cmp (rank_of q)) r ≡ same → contains rank_cmp ranks r ≡ false
        at true s = absurd (other (sym is ∙ ap (λ (y : Rank). y.class) (sym (rank_at (rank_of q) r s))))
        at false s = sym (v.0 r ∙ ap (λ b. cond b false (contains rank_cmp ranks r)) s) ∙ vacant r is

    occupied_less : ¬ IsVacant ranks_now q.class → (class : ℕ) → get_or occupied class false ≡ true → ¬ IsVacant ranks_now class
    occupied_less left class marked vacant = by (class == q.class) refl
      where
        by : (same : Bool) → (class == q.class) ≡ same → ⊥
        by true s = left (subst (IsVacant ranks_now) (eqb-true class q.class s) vacant)
        by false s = h.has_job class marked (had_none class (eqb-false class q.class s) vacant)

    -- a job of its class is left
    pub taken_out : ¬ IsVacant ranks_now q.class → IsRanked jobs_now ranks_now occupied
    taken_out left = record {
      ordered = ordered;
      numbered = All-same AreNumbered jobs_now.entries (remove_entry (is_at (nat_cmp job)) jobs.entries) is (All-removed AreNumbered (is_at (nat_cmp job)) jobs.entries h.numbered);
      ranked = λ k. if_some (λ x. contains rank_cmp ranks_now (rank_of x) ≡ true) (get nat_cmp jobs_now k) (ranked_less h had u v k);
      queued = queued_less h had u v;
      bounded = bounded_less h.bounded v;
      marked = λ k. if_some (λ x. get_or occupied x.class false ≡ true) (get nat_cmp jobs_now k)
          (λ x e. some_is (λ y. get_or occupied y.class false ≡ true) (get nat_cmp jobs k) x (h.marked k) (still u k x e).0);
      has_job = occupied_less left;
    }

    unmarked : IsVacant ranks_now q.class → (k : ℕ) (x : Queued) → get nat_cmp jobs_now k ≡ Some x → get_or (slice_set occupied q.class false) x.class false ≡ true
    unmarked none k x e = by (x.class == q.class) refl
      where
        by : (same : Bool) → (x.class == q.class) ≡ same → get_or (slice_set occupied q.class false) x.class false ≡ true
        by true s = absurd (both_ways (contains rank_cmp ranks_now (rank_of x)) (none (rank_of x) (eqb-true x.class q.class s)) (ranked_less h had u v k x e))
        by false s = get_or-set_other occupied q.class x.class false false (eqb-false x.class q.class s) ∙ some_is (λ y. get_or occupied y.class false ≡ true) (get nat_cmp jobs k) x (h.marked k) (still u k x e).0

    unoccupied : q.class < length occupied → (class : ℕ) → get_or (slice_set occupied q.class false) class false ≡ true → ¬ IsVacant ranks_now class
    unoccupied fits class marked vacant = by (class == q.class) refl
      where
        by : (same : Bool) → (class == q.class) ≡ same → ⊥
        by true s = both_ways (get_or (slice_set occupied q.class false) class false)
            (ap (λ k. get_or (slice_set occupied q.class false) k false) (eqb-true class q.class s) ∙ get_or-set_same occupied q.class false false fits) marked
        by false s = h.has_job class (sym (get_or-set_other occupied q.class class false false (eqb-false class q.class s)) ∙ marked) (had_none class (eqb-false class q.class s) vacant)

    -- it was the last of its class
    pub last_taken_out : q.class < length occupied → IsVacant ranks_now q.class → IsRanked jobs_now ranks_now (slice_set occupied q.class false)
    last_taken_out fits none = record {
      ordered = ordered;
      numbered = All-same AreNumbered jobs_now.entries (remove_entry (is_at (nat_cmp job)) jobs.entries) is (All-removed AreNumbered (is_at (nat_cmp job)) jobs.entries h.numbered);
      ranked = λ k. if_some (λ x. contains rank_cmp ranks_now (rank_of x) ≡ true) (get nat_cmp jobs_now k) (ranked_less h had u v k);
      queued = queued_less h had u v;
      bounded = bounded_less h.bounded v;
      marked = λ k. if_some (λ x. get_or (slice_set occupied q.class false) x.class false ≡ true) (get nat_cmp jobs_now k) (unmarked none k);
      has_job = unoccupied fits;
    }

no_mark : (n k : ℕ) → get_or (replicate n false) k false ≡ false
no_mark n k = by (nat_lt k n) refl
  where
    by : (within : Bool) → nat_lt k n ≡ within → get_or (replicate n false) k false ≡ false
    by true s = get_or-replicate n k false false (ltb-true k n s)
    by false s = get_or_past (replicate n false) k false (subst (λ m. m ≤ k) (sym (length-replicate n false)) (ltb-false k n s))

-- no job waits
pub nothing_ranked : (jobs : BTreeMap ℕ Queued) (ranks : BTreeSet Rank) → jobs.entries ≡ [] → ranks.keys ≡ [] → IsOrdered nat_cmp jobs → IsRanked jobs ranks (replicate 256 false)
nothing_ranked jobs ranks none no_rank ordered = record {
  ordered = ordered;
  numbered = All-same AreNumbered jobs.entries [] none (All-nil AreNumbered);
  ranked = λ k. rw none tt;
  queued = λ r e. absurd (both_ways (contains rank_cmp ranks r) (rw no_rank refl) e);
  bounded = λ r e. absurd (both_ways (contains rank_cmp ranks r) (rw no_rank refl) e);
  marked = λ k. rw none tt;
  has_job = λ class marked vacant. both_ways (get_or (replicate 256 false) class false) (no_mark 256 class) marked;
}
