-- Each job is at one place, behind an event too.
use Rattle.std.proofs.Common.{◌≡◌, ◌≢◌, ◌==◌, ◌≤◌, ◌<◌, ◌+◌, ◌⊎◌, inl, inr, ◌++◌, arith, ℕ, zero, suc, Bool, true, false, cond, List, [], ◌∷◌, map, Option, Some, None, refl, sym, ap, ◌∙◌, subst}
use Rattle.std.specs.Prelude.{All, not, filter, slice_get}
use Rattle.std.specs.List.{Contains}
use Rattle.std.proofs.lemmas.Bool.{both_ways, eq-eqb}
use Rattle.std.proofs.lemmas.List.Elements.{All-contains, All-filter, All-head, All-push, All-tail, All-weaker, filter_passes}
use Rattle.world_meaning.specs.Starts.{AreInOrder}
use Rattle.world_meaning.specs.Worlds.{Initiator, IsAt, Running, Shared, Waiting, World, with_running, without_waiting}
use Rattle.law_core.specs.Soundness.{IsSound, IsThereAlone, RunsAt}
use Rattle.law_core.proofs.Moves.{Left, Moved, ended_early, enters, goes, named, over, picks, still, turn_left, turns, unqueued}
use Rattle.law_core.proofs.Places.{WasAt, here, runs_cases, runs_same, there}
use Rattle.plain.specs.Lists.{Differ}

-- a job's turn leaves it, or none
pub job_left : (old : World) (q : Running) (shared : Shared) (runs : Option Running) → Left old.config old.shared q shared runs → (r : Running) →
    runs ≡ Some r → r.job ≡ q.job
job_left old q shared runs (over gone h) r is = let no : None ≡ Some r = sym gone ∙ is in absurd cc
job_left old q shared runs (goes s on same names plan h) r is = let one : s ≡ r = (let both : Some s ≡ Some r = sym on ∙ is in cc) in ap (λ (z : Running). z.job) (sym one) ∙ same
job_left old q shared runs (named s p on same names plan free h) r is = let one : s ≡ r = (let both : Some s ≡ Some r = sym on ∙ is in cc) in ap (λ (z : Running). z.job) (sym one) ∙ same

passes_not : (a b : ℕ) → not (a == b) ≡ true → a ≢ b
passes_not a b h same = both_ways (a == b) (flip (a == b) h) (eq-eqb a b same)
  where
    flip : (x : Bool) → not x ≡ true → x ≡ false
    flip true e = absurd cc
    flip false e = refl

-- those that wait still are others than the job that does no longer
others_wait : (waiting : List Waiting) (job : ℕ) → All (λ v. v.job ≢ job) (without_waiting waiting job)
others_wait waiting job =
    All-weaker (λ (v : Waiting). not (v.job == job) ≡ true) (λ v. v.job ≢ job) (λ v h. passes_not v.job job h) (without_waiting waiting job)
    (filter_passes (λ v. not (v.job == job)) waiting)

module _ (old new : World) (s : IsSound old) where
  apart_from : (place : ℕ) (r : Running) (v : Waiting) → RunsAt old place r → Contains old.waiting v → r.job ≢ v.job
  apart_from place r v at waits same = All-contains (λ x. x.job ≢ r.job) old.waiting v (s.alone place r at).not_waiting waits (sym same)

  more_jobs : (new.jobs ≡ old.jobs) ⊎ (new.jobs ≡ old.jobs + 1) → (job : ℕ) → job ≤ old.jobs → job ≤ new.jobs
  more_jobs (inl e) job h = omega (arith, e, h)
  more_jobs (inr e) job h = omega (arith, e, h)

  -- a job that stays where it is while the queue loses some
  stays_alone : (place job : ℕ) → IsThereAlone old place job → job ≤ new.jobs → All (λ v. v.job ≢ job) new.waiting →
      ((other : ℕ) (t : Running) → RunsAt new other t → t.job ≡ job → other ≡ place) → IsThereAlone new place job
  stays_alone place job a n w o = record { numbered = n; not_waiting = w; alone = o }

  module _ (at : ℕ) (x : Initiator) (o : Option Running) (is_at : IsAt old at x) (i : new.initiators ≡ with_running old.initiators at x o)
      (w : new.waiting ≡ old.waiting) (j : new.jobs ≡ old.jobs) (q : Running) (running : x.running ≡ Some q)
      (left : (r : Running) → o ≡ Some r → r.job ≡ q.job) where
    its : RunsAt old at q
    its = record { it = x; at = is_at; running = running }

    -- a job that the initiators have now had been where it is
    before : (place : ℕ) (r : Running) → RunsAt new place r → IsThereAlone old place r.job
    before place r h = by_case (runs_cases old new at x o is_at i place r h)
      where
        by_case : WasAt old at o place r → IsThereAlone old place r.job
        by_case (here same e) =
            subst (λ p. IsThereAlone old p r.job) (sym same) (subst (IsThereAlone old at) (sym (left r e)) (s.alone at q its))
        by_case (there apart was) = s.alone place r was

    only_there : (place : ℕ) (r : Running) → IsThereAlone old place r.job → (other : ℕ) (t : Running) → RunsAt new other t → t.job ≡ r.job → other ≡ place
    only_there place r a other t h same = by_case (runs_cases old new at x o is_at i other t h)
      where
        by_case : WasAt old at o other t → other ≡ place
        by_case (here e is) = e ∙ a.alone at q its (sym (left t is) ∙ same)
        by_case (there apart was) = a.alone other t was same

    turned_alone : (place : ℕ) (r : Running) → RunsAt new place r → IsThereAlone new place r.job
    turned_alone place r h =
        let a : IsThereAlone old place r.job = before place r h in
        stays_alone place r.job a (more_jobs (inl j) r.job a.numbered) (subst (λ ws. All (λ v. v.job ≢ r.job) ws) (sym w) a.not_waiting)
        (only_there place r a)

  pub alone_kept : Moved old new → (place : ℕ) (r : Running) → RunsAt new place r → IsThereAlone new place r.job
  alone_kept (still i w j h) place r at =
      let a : IsThereAlone old place r.job = s.alone place r (runs_same old new i place r at) in
      stays_alone place r.job a (more_jobs j r.job a.numbered) (subst (λ ws. All (λ v. v.job ≢ r.job) ws) (sym w) a.not_waiting)
      (λ other t there_too same. a.alone other t (runs_same old new i other t there_too) same)
  alone_kept (enters v numbered i w j h) place r at =
      let a : IsThereAlone old place r.job = s.alone place r (runs_same old new i place r at) in
      let low : r.job ≤ old.jobs = a.numbered in
      stays_alone place r.job a (more_jobs (inr j) r.job a.numbered)
      (subst (λ ws. All (λ v. v.job ≢ r.job) ws) (sym w) (All-push (λ v. v.job ≢ r.job) old.waiting v a.not_waiting
      (λ same. let no : ⊥ = omega (arith, numbered, same, low) in no)))
      (λ other t there_too same. a.alone other t (runs_same old new i other t there_too) same)
  alone_kept (unqueued v contained i w j h) place r at =
      let a : IsThereAlone old place r.job = s.alone place r (runs_same old new i place r at) in
      stays_alone place r.job a (more_jobs (inl j) r.job a.numbered)
      (subst (λ ws. All (λ v. v.job ≢ r.job) ws) (sym w) (All-filter (λ y. not (y.job == v.job)) (λ v. v.job ≢ r.job) old.waiting a.not_waiting))
      (λ other t there_too same. a.alone other t (runs_same old new i other t there_too) same)
  alone_kept (picks at x v q is_at idle contained job no_names no_plan i w j h) place r run = by_case (runs_cases old new at x (Some q) is_at i place r run)
    where
      by_case : WasAt old at (Some q) place r → IsThereAlone new place r.job
      by_case (here same is) =
          let one : q ≡ r = cc in
          let its_job : r.job ≡ v.job = ap (λ (z : Running). z.job) (sym one) ∙ job in
          record {
            numbered = subst (λ n. n ≤ new.jobs) (sym its_job) (more_jobs (inl j) v.job (All-contains (λ y. y.job ≤ old.jobs) old.waiting v s.numbered contained));
            not_waiting = subst (λ n. All (λ y. y.job ≢ n) new.waiting) (sym its_job) (subst (λ ws. All (λ y. y.job ≢ v.job) ws) (sym w) (others_wait old.waiting v.job));
            alone = λ other t there_too same_job. by_other other t same its_job same_job (runs_cases old new at x (Some q) is_at i other t there_too);
          }
        where
          by_other : (other : ℕ) (t : Running) → place ≡ at → r.job ≡ v.job → t.job ≡ r.job → WasAt old at (Some q) other t → other ≡ place
          by_other other t same its_job same_job (here e is_t) = e ∙ sym same
          by_other other t same its_job same_job (there apart was) = absurd (apart_from other t v was contained (same_job ∙ its_job))
      by_case (there apart was) =
          let a : IsThereAlone old place r.job = s.alone place r was in
          stays_alone place r.job a (more_jobs (inl j) r.job a.numbered)
          (subst (λ ws. All (λ v. v.job ≢ r.job) ws) (sym w) (All-filter (λ y. not (y.job == v.job)) (λ v. v.job ≢ r.job) old.waiting a.not_waiting))
          (λ other t there_too same_job. by_other a other t same_job (runs_cases old new at x (Some q) is_at i other t there_too))
        where
          by_other : IsThereAlone old place r.job → (other : ℕ) (t : Running) → t.job ≡ r.job → WasAt old at (Some q) other t → other ≡ place
          by_other a other t same_job (here e is_t) =
              let one : q ≡ t = cc in
              absurd (apart_from place r v was contained (sym same_job ∙ (ap (λ (z : Running). z.job) (sym one) ∙ job)))
          by_other a other t same_job (there apart_too was_too) = a.alone other t was_too same_job
  alone_kept (turns at x q lines shared runs is_at running g i w j h t) place r run =
      turned_alone at x runs is_at i w j q running
      (job_left old q shared runs (turn_left old.config old.shared q q.stage lines shared runs refl g)) place r run
  alone_kept (ended_early at x q is_at running i w j h) place r run =
      turned_alone at x None is_at i w j q running (λ z is. let no : None ≡ Some z = is in absurd cc) place r run

  -- those that wait have numbers that were given, in their order
  pub numbered_kept : Moved old new → All (λ v. v.job ≤ new.jobs) new.waiting
  numbered_kept (still i w j h) =
      subst (λ ws. All (λ v. v.job ≤ new.jobs) ws) (sym w)
      (All-weaker (λ (v : Waiting). v.job ≤ old.jobs) (λ v. v.job ≤ new.jobs) (λ v low. more_jobs j v.job low) old.waiting s.numbered)
  numbered_kept (enters v is i w j h) =
      subst (λ ws. All (λ v. v.job ≤ new.jobs) ws) (sym w) (All-push (λ v. v.job ≤ new.jobs) old.waiting v
      (All-weaker (λ (v : Waiting). v.job ≤ old.jobs) (λ v. v.job ≤ new.jobs) (λ v low. more_jobs (inr j) v.job low) old.waiting s.numbered)
      (let le : v.job ≤ new.jobs = omega (arith, is, j) in le))
  numbered_kept (unqueued v contained i w j h) =
      subst (λ ws. All (λ v. v.job ≤ new.jobs) ws) (sym w) (All-filter (λ y. not (y.job == v.job)) (λ v. v.job ≤ new.jobs) old.waiting
      (All-weaker (λ (v : Waiting). v.job ≤ old.jobs) (λ v. v.job ≤ new.jobs) (λ v low. more_jobs (inl j) v.job low) old.waiting s.numbered))
  numbered_kept (picks at x v q is_at idle contained job no_names no_plan i w j h) =
      subst (λ ws. All (λ v. v.job ≤ new.jobs) ws) (sym w) (All-filter (λ y. not (y.job == v.job)) (λ v. v.job ≤ new.jobs) old.waiting
      (All-weaker (λ (v : Waiting). v.job ≤ old.jobs) (λ v. v.job ≤ new.jobs) (λ v low. more_jobs (inl j) v.job low) old.waiting s.numbered))
  numbered_kept (turns at x q lines shared runs is_at running g i w j h t) =
      subst (λ ws. All (λ v. v.job ≤ new.jobs) ws) (sym w)
      (All-weaker (λ (v : Waiting). v.job ≤ old.jobs) (λ v. v.job ≤ new.jobs) (λ v low. more_jobs (inl j) v.job low) old.waiting s.numbered)
  numbered_kept (ended_early at x q is_at running i w j h) =
      subst (λ ws. All (λ v. v.job ≤ new.jobs) ws) (sym w)
      (All-weaker (λ (v : Waiting). v.job ≤ old.jobs) (λ v. v.job ≤ new.jobs) (λ v low. more_jobs (inl j) v.job low) old.waiting s.numbered)

-- an order from one number on
from_less : (low high : ℕ) (ws : List Waiting) → low ≤ high → AreInOrder high ws → AreInOrder low ws
from_less low high [] h o = tt
from_less low high (w ∷ ws) h o = let less : high < w.job = o.0 in (omega (arith, h, less), o.1)

in_order_filter : (p : Waiting → Bool) (last : ℕ) (ws : List Waiting) → AreInOrder last ws → AreInOrder last (filter p ws)
in_order_filter p last [] o = tt
in_order_filter p last (w ∷ ws) o = by_test (p w) (in_order_filter p w.job ws o.1)
  where
    by_test : (b : Bool) → AreInOrder w.job (filter p ws) → AreInOrder last (cond b (w ∷ filter p ws) (filter p ws))
    by_test true rest = (o.0, rest)
    by_test false rest =
        let less : last < w.job = o.0 in
        let le : last ≤ w.job = omega (arith, less) in
        from_less last w.job (filter p ws) le rest

in_order_push : (last most : ℕ) (ws : List Waiting) (v : Waiting) → last ≤ most → AreInOrder last ws → All (λ x. x.job ≤ most) ws → v.job ≡ most + 1 →
    AreInOrder last (ws ++ v ∷ [])
in_order_push last most [] v low o all is = (omega (arith, low, is), tt)
in_order_push last most (w ∷ ws) v low o all is =
    (o.0, in_order_push w.job most ws v (All-head (λ x. x.job ≤ most) w ws all) o.1 (All-tail (λ x. x.job ≤ most) w ws all) is)

module _ (old new : World) (s : IsSound old) where
  pub in_order_kept : Moved old new → AreInOrder 0 new.waiting
  in_order_kept (still i w j h) = subst (AreInOrder 0) (sym w) s.in_order
  in_order_kept (enters v is i w j h) =
      subst (AreInOrder 0) (sym w) (in_order_push 0 old.jobs old.waiting v (omega arith) s.in_order s.numbered is)
  in_order_kept (unqueued v contained i w j h) = subst (AreInOrder 0) (sym w) (in_order_filter (λ y. not (y.job == v.job)) 0 old.waiting s.in_order)
  in_order_kept (picks at x v q is_at idle contained job no_names no_plan i w j h) =
      subst (AreInOrder 0) (sym w) (in_order_filter (λ y. not (y.job == v.job)) 0 old.waiting s.in_order)
  in_order_kept (turns at x q lines shared runs is_at running g i w j h t) = subst (AreInOrder 0) (sym w) s.in_order
  in_order_kept (ended_early at x q is_at running i w j h) = subst (AreInOrder 0) (sym w) s.in_order

  -- the initiators are those of the configuration
  same_numbers : (xs : List Initiator) (place : ℕ) (x : Initiator) (o : Option Running) → slice_get xs place ≡ Some x →
      map (λ (y : Initiator). y.number) (with_running xs place x o) ≡ map (λ (y : Initiator). y.number) xs
  same_numbers [] place x o e = refl
  same_numbers (y ∷ xs) zero x o e = let is : y ≡ x = cc in ap (λ (z : Initiator). z.number ∷ map (λ (y : Initiator). y.number) xs) (sym is)
  same_numbers (y ∷ xs) (suc place) x o e = ap (λ (ns : List ℕ). y.number ∷ ns) (same_numbers xs place x o e)

  numbers_stay : (at : ℕ) (x : Initiator) (o : Option Running) → IsAt old at x → new.initiators ≡ with_running old.initiators at x o →
      Differ (map (λ (y : Initiator). y.number) new.initiators)
  numbers_stay at x o is_at i =
      subst Differ (sym (ap (map (λ (y : Initiator). y.number)) i ∙ same_numbers old.initiators at x o is_at)) s.initiators

  pub numbers_kept : Moved old new → Differ (map (λ (y : Initiator). y.number) new.initiators)
  numbers_kept (still i w j h) = subst (λ xs. Differ (map (λ (y : Initiator). y.number) xs)) (sym i) s.initiators
  numbers_kept (enters v is i w j h) = subst (λ xs. Differ (map (λ (y : Initiator). y.number) xs)) (sym i) s.initiators
  numbers_kept (unqueued v contained i w j h) = subst (λ xs. Differ (map (λ (y : Initiator). y.number) xs)) (sym i) s.initiators
  numbers_kept (picks at x v q is_at idle contained job no_names no_plan i w j h) = numbers_stay at x (Some q) is_at i
  numbers_kept (turns at x q lines shared runs is_at running g i w j h t) = numbers_stay at x runs is_at i
  numbers_kept (ended_early at x q is_at running i w j h) = numbers_stay at x None is_at i
