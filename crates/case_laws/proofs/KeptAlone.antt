-- Tracks are kept for assured jobs alone, behind each event too.
use Rattle.std.proofs.Common.{◌≡◌, ◌==◌, ◌⊎◌, inl, inr, ℕ, Bool, true, false, not, cond, List, [], ◌∷◌, Option, Some, None, All, refl, sym, ap, ◌∙◌, subst}
use Rattle.std.specs.Prelude.{filter, slice_get}
use Rattle.std.specs.List.{Contains, list_any}
use Rattle.std.proofs.lemmas.Bool.{both_ways, cases_eq, ne_eqb, eq-eqb}
use Rattle.std.proofs.lemmas.List.Elements.{All-cons, All-contains, All-nil, All-weaker}
use Rattle.jcl_plan.specs.declared.entry.JobLine.{JobLine}
use Rattle.jcl_plan.specs.declared.plan.JobPlan.{JobPlan}
use Rattle.jcl_meaning.specs.declared.state.Own.{Own}
use Rattle.jcl_meaning.specs.declared.state.Place.{Place}
use Rattle.jcl_meaning.specs.States.{Fixed}
use Rattle.world_meaning.specs.declared.event.Event.{Event}
use Rattle.world_meaning.specs.Admissions.{Answered, MayFail, assured, fixed_at, no_space, refused, risk, risky, too_many}
use Rattle.world_meaning.specs.Cancels.{is_admitted}
use Rattle.world_meaning.specs.Holdings.{Holds, blocked, broken, held, read}
use Rattle.world_meaning.specs.Tracks.{is_kept_for, kept_of, kept_unless_made, kept_without}
use Rattle.world_meaning.specs.Transitions.{GoesOn}
use Rattle.world_meaning.specs.Turns.{Advances, acts, ends, waits}
use Rattle.world_meaning.specs.Worlds.{Admission, Admitted, Config, Initiator, Kept, Named, Running, Selected, Shared, Stage, Wanting, World, with_running}
use Rattle.world_laws.proofs.Beside.{set_elsewhere, set_here}
use Rattle.world_laws.proofs.Effects.{Effect, ended_early, goes, picks, still, unqueued}
use Rattle.law_core.specs.Soundness.{IsSound, RunsAt}
use Rattle.law_core.proofs.Elements.{contains_first, contains_later, contains_filter}
use Rattle.law_core.proofs.Places.{one_running}
use Rattle.case_laws.specs.Cases.{HasAssured, is_assured_at}

-- what is left by a test was there, and passed
all_there : {X : Type 0} (p : X → Bool) (xs : List X) → All (λ x. Contains xs x × (p x ≡ true)) (filter p xs)
all_there {X = X} p [] = All-nil (λ (x : X). Contains [] x × (p x ≡ true))
all_there {X = X} p (y ∷ xs) = by_test (p y) refl (all_there p xs)
  where
    later : All (λ x. Contains xs x × (p x ≡ true)) (filter p xs) → All (λ x. Contains (y ∷ xs) x × (p x ≡ true)) (filter p xs)
    later all =
        All-weaker (λ (x : X). Contains xs x × (p x ≡ true)) (λ x. Contains (y ∷ xs) x × (p x ≡ true)) (λ x h. (contains_later y x xs h.0, h.1)) (filter p xs) all

    by_test : (b : Bool) → p y ≡ b → All (λ x. Contains xs x × (p x ≡ true)) (filter p xs) →
        All (λ x. Contains (y ∷ xs) x × (p x ≡ true)) (cond b (y ∷ filter p xs) (filter p xs))
    by_test true e all = All-cons (λ (x : X). Contains (y ∷ xs) x × (p x ≡ true)) y (filter p xs) (contains_first y xs, e) (later all)
    by_test false e all = later all

pub from_filter : {X : Type 0} (p : X → Bool) (xs : List X) (x : X) → Contains (filter p xs) x → Contains xs x × (p x ≡ true)
from_filter {X = X} p xs x h = All-contains (λ (y : X). Contains xs y × (p y ≡ true)) (filter p xs) x (all_there p xs) h

passes_not : (b : Bool) → not b ≡ true → b ≡ false
passes_not true e = absurd cc
passes_not false e = refl

module _ (kept : List ℕ → List Kept) (job : ℕ) (serial : List ℕ) (k : Kept) where
  -- nothing of a job is left where what is kept for it is given back
  none_left : Contains (kept_without kept job serial) k → k.job ≡ job → ⊥
  none_left h same =
      both_ways (k.job == job) (passes_not (k.job == job) (from_filter (λ (x : Kept). not (x.job == job)) (kept serial) k h).1) (eq-eqb k.job job same)

  was_there : Contains (kept_without kept job serial) k → Contains (kept serial) k
  was_there h = (from_filter (λ (x : Kept). not (x.job == job)) (kept serial) k h).0

  stays_there : Contains (kept serial) k → (k.job ≡ job → ⊥) → Contains (kept_without kept job serial) k
  stays_there h apart = contains_filter (λ (x : Kept). not (x.job == job)) (kept serial) k (ap not (ne_eqb k.job job apart)) h

  was_unmade : (made : List Place) → Contains (kept_unless_made kept job made serial) k → Contains (kept serial) k
  was_unmade made h = (from_filter (λ (x : Kept). not (list_any (λ p. is_kept_for job p serial x) made)) (kept serial) k h).0

-- the job of an initiator, assured, goes on so
abbrev GoesOnAssured : ℕ → Option Running → Type 0
GoesOnAssured job runs = (r : Running) × (runs ≡ Some r) × (r.job ≡ job) × (is_assured_at r.stage ≡ true)

module _ (c : Config) (old : Shared) (q : Running) (serial : List ℕ) (k : Kept)
    (assured_if : Contains (old.kept serial) k → k.job ≡ q.job → is_assured_at q.stage ≡ true) where
  -- what is kept for another job was kept before
  abbrev Before : Shared → Type 0
  Before new = Contains (new.kept serial) k → (k.job ≡ q.job → ⊥) → Contains (old.kept serial) k

  -- the job for which tracks are kept is assured behind its turn
  abbrev Behind : Shared → Option Running → Type 0
  Behind new runs = Contains (new.kept serial) k → k.job ≡ q.job → GoesOnAssured q.job runs

  abbrev Both : Shared → Option Running → Type 0
  Both new runs = Before new × Behind new runs

  by_new : (new mid : Shared) (runs : Option Running) → new ≡ mid → Both mid runs → Both new runs
  by_new new mid runs e b = subst (λ (s : Shared). Both s runs) (sym e) b

  -- nothing changes, and the job was not assured
  unassured : (runs : Option Running) → is_assured_at q.stage ≡ false → Both old runs
  unassured runs e = (λ h apart. h, λ h same. absurd (both_ways (is_assured_at q.stage) e (assured_if h same)))

  given_back : (kept : List ℕ → List Kept) (runs : Option Running) → (Contains (kept serial) k → Contains (old.kept serial) k) →
      (Contains (kept_without kept q.job serial) k → (k.job ≡ q.job → ⊥) → Contains (old.kept serial) k)
      × (Contains (kept_without kept q.job serial) k → k.job ≡ q.job → GoesOnAssured q.job runs)
  given_back kept runs back = (λ h apart. back (was_there kept q.job serial k h), λ h same. absurd (none_left kept q.job serial k h same))

  in_holds : (plan : JobPlan) (lines : List JobLine) (new : Shared) (runs : Option Running) → is_assured_at q.stage ≡ false →
      Holds old q plan lines new runs → Both new runs
  in_holds plan lines new runs e (held free t n on) = by_new new _ runs n (unassured runs e)
  in_holds plan lines new runs e (blocked by is t n on) = by_new new _ runs n (unassured runs e)

  in_failing : (plan : JobPlan) (fixed : Fixed) (told : JobLine) (lines : List JobLine) (new : Shared) (runs : Option Running) →
      is_assured_at q.stage ≡ false → MayFail c old q plan fixed told lines new runs → Both new runs
  in_failing plan fixed told lines new runs e (risky b t n on) = by_new new _ runs n (unassured runs e)
  in_failing plan fixed told lines new runs e (refused free b t n conserved gone) = by_new new _ runs n (given_back old.kept runs (λ h. h))

  in_answer : (plan : JobPlan) (fixed : Fixed) (lines : List JobLine) (new : Shared) (runs : Option Running) → is_assured_at q.stage ≡ false →
      Answered c old q plan fixed lines new runs → Both new runs
  in_answer plan fixed lines new runs e (assured places kept free safe are_made are others t n conserved on) = by_new new _ runs n (
    λ h apart. subst (λ (f : List ℕ → List Kept). Contains (f serial) k) others (stays_there kept q.job serial k h apart),
    λ h same. (_, on, refl, refl),
  )
  in_answer plan fixed lines new runs e (no_space v there t n on) = by_new new _ runs n (unassured runs e)
  in_answer plan fixed lines new runs e (risk fault step dd path meets m) = in_failing plan fixed _ lines new runs e m
  in_answer plan fixed lines new runs e (too_many step low high views m) = in_failing plan fixed _ lines new runs e m

  in_turn : (plan : JobPlan) (a : Admission) (count : ℕ) (own : Own) (lines : List JobLine) (new : Shared) (runs : Option Running) →
      q.stage ≡ Admitted plan a count own → Advances c old q plan a count own lines new runs → Both new runs
  in_turn plan a count own lines new runs e (waits x growth primary is must t n on) =
      by_new new _ runs n (λ h apart. h, λ h same. (q, on, refl, assured_if h same))
  in_turn plan a count own lines new runs e (acts x growth primary free is grants further on_its_way t n conserved on) = by_new new _ runs n (
    λ h apart. was_unmade old.kept q.job serial k x.done.made h,
    λ h same. (
      _,
      on,
      refl,
      sym (ap is_assured_at e) ∙ assured_if (was_unmade old.kept q.job serial k x.done.made h) same,
    ),
  )
  in_turn plan a count own lines new runs e (ends x growth primary free is grants further over t n conserved gone) =
      by_new new _ runs n (given_back (kept_unless_made old.kept q.job x.done.made) runs (λ h. was_unmade old.kept q.job serial k x.done.made h))

  pub kept_by_turn : (stage : Stage) (lines : List JobLine) (new : Shared) (runs : Option Running) → q.stage ≡ stage →
      GoesOn c old q stage lines new runs → Both new runs
  kept_by_turn (Selected first) lines new runs e (broken n free f t is conserved gone) = by_new new _ runs is (given_back old.kept runs (λ h. h))
  kept_by_turn (Selected first) lines new runs e (read plan rest denoted h) = in_holds plan lines new runs (ap is_assured_at e) h
  kept_by_turn (Wanting plan) lines new runs e h = in_holds plan lines new runs (ap is_assured_at e) h
  kept_by_turn (Named plan) lines new runs e g =
      in_answer plan (fixed_at c old q.job plan g.places) lines new runs (ap is_assured_at e) g.answers
  kept_by_turn (Admitted plan a count own) lines new runs e g = in_turn plan a count own lines new runs e g

module _ (old new : World) (s : IsSound old) (founded : (serial : List ℕ) (k : Kept) → Contains (old.shared.kept serial) k → HasAssured old k.job) where
  same_there : (job : ℕ) → new.initiators ≡ old.initiators → HasAssured old job → HasAssured new job
  same_there job i h = record {
    place = h.place;
    running = h.running;
    runs = record {
      it = h.runs.it;
      at = ap (λ (xs : List Initiator). slice_get xs h.place) i ∙ h.runs.at;
      running = h.runs.running;
    };
    its = h.its;
    assured = h.assured;
  }

  -- another initiator changed
  elsewhere : (job at : ℕ) (x : Initiator) (o : Option Running) → new.initiators ≡ with_running old.initiators at x o → (h : HasAssured old job) →
      (h.place ≡ at → ⊥) → HasAssured new job
  elsewhere job at x o i h apart = record {
    place = h.place;
    running = h.running;
    runs = record {
      it = h.runs.it;
      at = ap (λ (xs : List Initiator). slice_get xs h.place) i
          ∙ (set_elsewhere old.initiators h.place at (record x { running = o }) apart ∙ h.runs.at);
      running = h.runs.running;
    };
    its = h.its;
    assured = h.assured;
  }

  -- an initiator has one job
  module _ (at : ℕ) (x : Initiator) (q : Running) (is_at : slice_get old.initiators at ≡ Some x) (running : x.running ≡ Some q) where
    it : RunsAt old at q
    it = record { it = x; at = is_at; running = running }

    other_place : (job : ℕ) (h : HasAssured old job) → (job ≡ q.job → ⊥) → h.place ≡ at → ⊥
    other_place job h apart same =
        apart (sym h.its ∙ ap (λ (r : Running). r.job) (one_running old at h.running q (subst (λ p. RunsAt old p h.running) same h.runs) it))

    its_stage : (job : ℕ) (h : HasAssured old job) → job ≡ q.job → is_assured_at q.stage ≡ true
    its_stage job h same =
        let at_place : h.place ≡ at = (s.alone at q it).alone h.place h.running h.runs (h.its ∙ same) in
        sym (ap (λ (r : Running). is_assured_at r.stage) (one_running old at h.running q (subst (λ p. RunsAt old p h.running) at_place h.runs) it)) ∙ h.assured

  not_admitted_unassured : (stage : Stage) → is_admitted stage ≡ false → is_assured_at stage ≡ false
  not_admitted_unassured (Selected first) e = refl
  not_admitted_unassured (Wanting plan) e = refl
  not_admitted_unassured (Named plan) e = refl
  not_admitted_unassured (Admitted plan a count own) e = absurd cc

  pub kept_founded : (e : Event) (serial : List ℕ) (k : Kept) → Effect old e new → Contains (new.shared.kept serial) k → HasAssured new k.job
  kept_founded e serial k (still i d l) h =
      same_there k.job i (founded serial k (subst (λ (f : List ℕ → List Kept). Contains (f serial) k) l h))
  kept_founded e serial k (picks at x first r is_at turn was_idle stage i d l) h =
      let a : HasAssured old k.job = founded serial k (subst (λ (f : List ℕ → List Kept). Contains (f serial) k) l h) in
      elsewhere k.job at x (Some r) i a (λ same.
      let no : Some a.running ≡ None = sym a.runs.running ∙ (ap (λ (y : Initiator). y.running)
      (let both : Some a.runs.it ≡ Some x = sym (subst (λ p. slice_get old.initiators p ≡ Some a.runs.it) same a.runs.at) ∙ is_at in
      let one : a.runs.it ≡ x = cc in one) ∙ was_idle) in absurd cc)
  kept_founded e serial k (goes at x q lines shared runs is_at turn running g i d l) h =
      by_job (cases_eq k.job q.job)
    where
      here_now : Contains (shared.kept serial) k
      here_now = subst (λ (f : List ℕ → List Kept). Contains (f serial) k) l h

      both : (Contains (shared.kept serial) k → (k.job ≡ q.job → ⊥) → Contains (old.shared.kept serial) k)
          × (Contains (shared.kept serial) k → k.job ≡ q.job → GoesOnAssured q.job runs)
      both =
          kept_by_turn old.config old.shared q serial k (λ was same. its_stage at x q is_at running k.job (founded serial k was) same) q.stage lines shared
          runs refl g

      by_job : (k.job ≡ q.job) ⊎ (k.job ≡ q.job → ⊥) → HasAssured new k.job
      by_job (inl same) =
          let on : GoesOnAssured q.job runs = both.1 here_now same in
          record {
            place = at;
            running = on.0;
            runs = record {
              it = record x { running = runs };
              at = ap (λ (xs : List Initiator). slice_get xs at) i ∙ set_here old.initiators at x (record x { running = runs }) is_at;
              running = on.1;
            };
            its = on.2 ∙ sym same;
            assured = on.3;
          }
      by_job (inr apart) =
          let a : HasAssured old k.job = founded serial k (both.0 here_now apart) in
          elsewhere k.job at x runs i a (other_place at x q is_at running k.job a apart)
  kept_founded e serial k (unqueued w there is i d l) h =
      same_there k.job i (founded serial k (was_there old.shared.kept w.job serial k (subst (λ (f : List ℕ → List Kept). Contains (f serial) k) l h)))
  kept_founded e serial k (ended_early at x r is_at running is stage i d l) h =
      let left : Contains (kept_without old.shared.kept r.job serial) k = subst (λ (f : List ℕ → List Kept). Contains (f serial) k) l h in
      let a : HasAssured old k.job = founded serial k (was_there old.shared.kept r.job serial k left) in
      elsewhere k.job at x None i a (other_place at x r is_at running k.job a (none_left old.shared.kept r.job serial k left))

-- nothing is kept for a job that is not assured
none_of : (job : ℕ) (kept : List Kept) → ((k : Kept) → Contains kept k → k.job ≡ job → ⊥) → filter (λ k. k.job == job) kept ≡ []
none_of job [] not_its = refl
none_of job (k ∷ kept) not_its =
    ap (λ (b : Bool). cond b (k ∷ filter (λ x. x.job == job) kept) (filter (λ x. x.job == job) kept)) (ne_eqb k.job job (not_its k (contains_first k kept)))
    ∙ none_of job kept (λ x h. not_its x (contains_later k x kept h))

all_others : (job : ℕ) (kept : List Kept) → filter (λ k. k.job == job) kept ≡ [] → filter (λ k. not (k.job == job)) kept ≡ kept
all_others job [] e = refl
all_others job (k ∷ kept) e = by_test (k.job == job) refl e (all_others job kept)
  where
    by_test : (b : Bool) → (k.job == job) ≡ b → cond b (k ∷ filter (λ x. x.job == job) kept) (filter (λ x. x.job == job) kept) ≡ [] →
        (filter (λ x. x.job == job) kept ≡ [] → filter (λ x. not (x.job == job)) kept ≡ kept) → filter (λ x. not (x.job == job)) (k ∷ kept) ≡ k ∷ kept
    by_test true f h later = absurd cc
    by_test false f h later =
        ap (λ (b : Bool). cond (not b) (k ∷ filter (λ x. not (x.job == job)) kept) (filter (λ x. not (x.job == job)) kept)) f
        ∙ ap (λ xs. k ∷ xs) (later h)

pub without_none : (job : ℕ) (kept : List ℕ → List Kept) → ((serial : List ℕ) → kept_of job kept serial ≡ []) → kept_without kept job ≡ kept
without_none job kept none = λ i serial. all_others job (kept serial) (none serial) i

-- before its admission nothing is kept for a job
pub none_before : (w : World) → IsSound w → ((serial : List ℕ) (k : Kept) → Contains (w.shared.kept serial) k → HasAssured w k.job) →
    (place : ℕ) (r : Running) → RunsAt w place r → is_assured_at r.stage ≡ false → (serial : List ℕ) → kept_of r.job w.shared.kept serial ≡ []
none_before w s founded place r run unassured serial =
    none_of r.job (w.shared.kept serial) (λ k h same.
    both_ways (is_assured_at r.stage) unassured
    (its_stage w w s founded place run.it r run.at run.running k.job (founded serial k h) same))
