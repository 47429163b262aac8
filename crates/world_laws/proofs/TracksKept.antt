-- The tracks kept for a job, behind what another does.
use Rattle.std.proofs.Common.{◌≡◌, ◌≢◌, ◌==◌, ℕ, Bool, true, false, cond, List, [], ◌∷◌, Option, All, refl, sym, ap, ◌∙◌, subst}
use Rattle.std.specs.Prelude.{filter, not}
use Rattle.std.specs.List.{list_any}
use Rattle.std.proofs.lemmas.Bool.{and_left, both_ways, eqb-true, ne_eqb, or_from}
use Rattle.std.proofs.lemmas.List.Elements.{All-contains}
use Rattle.jcl_plan.specs.declared.entry.JobLine.{JobLine}
use Rattle.jcl_plan.specs.declared.plan.JobPlan.{JobPlan}
use Rattle.jcl_meaning.specs.declared.state.Own.{Own}
use Rattle.jcl_meaning.specs.declared.state.Place.{Place}
use Rattle.jcl_meaning.specs.States.{Fixed}
use Rattle.world_meaning.specs.declared.event.Event.{Event}
use Rattle.world_meaning.specs.Admissions.{Answered, MayFail, assured, fixed_at, no_space, refused, risk, risky, too_many}
use Rattle.world_meaning.specs.Cancels.{RunsNot, is_admitted}
use Rattle.world_meaning.specs.Holdings.{Holds, ReadsRecords, blocked, broken, held, read}
use Rattle.world_meaning.specs.Tracks.{is_kept_for, kept_of, kept_unless_made, kept_without}
use Rattle.world_meaning.specs.Transitions.{GoesOn}
use Rattle.world_meaning.specs.Turns.{Advances, acts, ends, waits}
use Rattle.world_meaning.specs.Worlds.{Admission, Admitted, Config, Kept, Named, Running, Selected, Shared, Stage, Wanting, World}
use Rattle.world_laws.specs.Beside.{IsCancelOf}
use Rattle.world_laws.specs.KeptTracks.{StaysOn}
use Rattle.world_laws.proofs.Effects.{Effect, ended_early, goes, picks, still, unqueued}

-- what is left out beforehand was not wanted
pub filters_agree : {X : Type 0} (p q : X → Bool) (xs : List X) → ((x : X) → p x ≡ true → q x ≡ true) → filter p (filter q xs) ≡ filter p xs
filters_agree p q [] h = refl
filters_agree p q (x ∷ xs) h = by_tests (p x) (q x) refl refl (filters_agree p q xs h)
  where
    by_tests : (a b : Bool) → p x ≡ a → q x ≡ b → filter p (filter q xs) ≡ filter p xs →
        filter p (cond (q x) (x ∷ filter q xs) (filter q xs)) ≡ cond (p x) (x ∷ filter p xs) (filter p xs)
    by_tests a true ea eb rest =
        ap (λ t. filter p (cond t (x ∷ filter q xs) (filter q xs))) eb ∙ ap (λ ys. cond (p x) (x ∷ ys) ys) rest
    by_tests true false ea eb rest = absurd (both_ways (q x) eb (h x ea))
    by_tests false false ea eb rest =
        ap (λ t. filter p (cond t (x ∷ filter q xs) (filter q xs))) eb ∙ (rest ∙ sym (ap (λ t. cond t (x ∷ filter p xs) (filter p xs)) ea))

module _ (job other : ℕ) (apart : other ≢ job) (serial : List ℕ) where
  of_other : (n : ℕ) → (n == job) ≡ true → (n == other) ≡ false
  of_other n e = ne_eqb n other (λ is. apart (sym is ∙ eqb-true n job e))

  pub kept_behind_end : (kept : List ℕ → List Kept) → kept_of job (kept_without kept other) serial ≡ kept_of job kept serial
  kept_behind_end kept = filters_agree (λ k. k.job == job) (λ k. not (k.job == other)) (kept serial) (λ k e. ap not (of_other k.job e))

  none_made : (k : Kept) (made : List Place) → (k.job == job) ≡ true → list_any (λ p. is_kept_for other p serial k) made ≡ false
  none_made k [] e = refl
  none_made k (p ∷ made) e =
      or_from _ _ (and_left _ _ (and_left _ _ (and_left (k.job == other) (k.step == p.step) (of_other k.job e)))) (none_made k made e)

  pub kept_behind_make : (kept : List ℕ → List Kept) (made : List Place) → kept_of job (kept_unless_made kept other made) serial ≡ kept_of job kept serial
  kept_behind_make kept made =
      filters_agree (λ k. k.job == job) (λ k. not (list_any (λ p. is_kept_for other p serial k) made)) (kept serial) (λ k e. ap not (none_made k made e))

  -- what is kept anew for one job is left out again
  pub kept_behind_more : (old kept : List ℕ → List Kept) → kept_without kept other ≡ old → kept_of job kept serial ≡ kept_of job old serial
  kept_behind_more old kept e = sym (kept_behind_end kept) ∙ ap (λ (k : List ℕ → List Kept). kept_of job k serial) e

  holds_kept : (old : Shared) (r : Running) (plan : JobPlan) (lines : List JobLine) (new : Shared) (runs : Option Running) → Holds old r plan lines new runs →
      kept_of job new.kept serial ≡ kept_of job old.kept serial
  holds_kept old r plan lines new runs (held free t n goes_on) = ap (λ (s : Shared). kept_of job s.kept serial) n
  holds_kept old r plan lines new runs (blocked by is t n goes_on) = ap (λ (s : Shared). kept_of job s.kept serial) n

module _ (job : ℕ) (c : Config) (old : Shared) (r : Running) (apart : r.job ≢ job) (lines : List JobLine) (new : Shared) (runs : Option Running)
    (serial : List ℕ) where
  reads_kept : (first : ℕ) → ReadsRecords c old r first lines new runs → kept_of job new.kept serial ≡ kept_of job old.kept serial
  reads_kept first (broken n free f t is conserved over) =
      ap (λ (s : Shared). kept_of job s.kept serial) is ∙ kept_behind_end job r.job apart serial old.kept
  reads_kept first (read plan rest denoted h) = holds_kept job r.job apart serial old r plan lines new runs h

  may_fail_kept : (plan : JobPlan) (fixed : Fixed) (told : JobLine) → MayFail c old r plan fixed told lines new runs →
      kept_of job new.kept serial ≡ kept_of job old.kept serial
  may_fail_kept plan fixed told (risky b t n goes_on) = ap (λ (s : Shared). kept_of job s.kept serial) n
  may_fail_kept plan fixed told (refused free b t n conserved over) =
      ap (λ (s : Shared). kept_of job s.kept serial) n ∙ kept_behind_end job r.job apart serial old.kept

  answered_kept : (plan : JobPlan) (fixed : Fixed) → Answered c old r plan fixed lines new runs → kept_of job new.kept serial ≡ kept_of job old.kept serial
  answered_kept plan fixed (assured places kept free safe are_made are others t n conserved goes_on) =
      ap (λ (s : Shared). kept_of job s.kept serial) n ∙ kept_behind_more job r.job apart serial old.kept kept others
  answered_kept plan fixed (no_space v there t n goes_on) = ap (λ (s : Shared). kept_of job s.kept serial) n
  answered_kept plan fixed (risk fault step dd path meets m) = may_fail_kept plan fixed _ m
  answered_kept plan fixed (too_many step low high views m) = may_fail_kept plan fixed _ m

  advances_kept : (plan : JobPlan) (a : Admission) (count : ℕ) (own : Own) → Advances c old r plan a count own lines new runs →
      kept_of job new.kept serial ≡ kept_of job old.kept serial
  advances_kept plan a count own (waits x growth primary is must t n goes_on) = ap (λ (s : Shared). kept_of job s.kept serial) n
  advances_kept plan a count own (acts x growth primary free is grants further more t n conserved goes_on) =
      ap (λ (s : Shared). kept_of job s.kept serial) n ∙ kept_behind_make job r.job apart serial old.kept x.done.made
  advances_kept plan a count own (ends x growth primary free is grants further over t n conserved goes_on) =
      ap (λ (s : Shared). kept_of job s.kept serial) n
      ∙ (kept_behind_end job r.job apart serial (kept_unless_made old.kept r.job x.done.made) ∙ kept_behind_make job r.job apart serial old.kept x.done.made)

  goes_kept : (stage : Stage) → GoesOn c old r stage lines new runs → kept_of job new.kept serial ≡ kept_of job old.kept serial
  goes_kept (Selected first) g = reads_kept first g
  goes_kept (Wanting plan) g = holds_kept job r.job apart serial old r plan lines new runs g
  goes_kept (Named plan) g = answered_kept plan (fixed_at c old r.job plan g.places) g.answers
  goes_kept (Admitted plan a count own) g = advances_kept plan a count own g

module _ (job : ℕ) (serial : List ℕ) where
  kept_again : (old new : List ℕ → List Kept) → new ≡ old → kept_of job new serial ≡ kept_of job old serial
  kept_again old new e = ap (λ (k : List ℕ → List Kept). kept_of job k serial) e

  pub kept_stays : (old new : World) (e : Event) → StaysOn old e job → Effect old e new → kept_of job new.shared.kept serial ≡ kept_of job old.shared.kept serial
  kept_stays old new e on (still i s k) = kept_again _ _ k
  kept_stays old new e on (picks place x first r at is runs stage i s k) = kept_again _ _ k
  kept_stays old new e on (goes place x r lines shared runs at is running g i s k) =
      kept_again _ _ k
      ∙ goes_kept job old.config old.shared r (subst (λ o. RunsNot o job) running (on.no_turn place x at is)) lines shared runs serial r.stage g
  kept_stays old new e on (unqueued w there is i s k) =
      kept_again _ _ k ∙ kept_behind_end job w.job
      (λ same. All-contains (λ x. x.job ≢ job) old.waiting w (on.not_waiting (subst (IsCancelOf e) same is)) there same)
      serial old.shared.kept
  kept_stays old new e on (ended_early place x r at runs is stage i s k) =
      kept_again _ _ k ∙ kept_behind_end job r.job (λ same. both_ways (is_admitted r.stage) stage
      (on.admitted (subst (IsCancelOf e) same is) place x r at runs same)) serial old.shared.kept
