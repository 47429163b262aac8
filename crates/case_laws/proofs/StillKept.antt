-- Tracks kept for a place stay where sets of other DDs are made, and where tracks are kept for more.
use Rattle.std.proofs.Common.{◌≡◌, ◌==◌, ◌⊎◌, inl, inr, ℕ, Bool, true, false, not, cond, List, [], ◌∷◌, eqb-true, refl, sym, ap, ◌∙◌, subst}
use Rattle.std.specs.Prelude.{◌&&◌, filter}
use Rattle.std.specs.List.{Contains, list_any}
use Rattle.std.specs.Str.{bytes_eq}
use Rattle.std.proofs.lemmas.Bool.{and_parts, false_from_ne_true, or_cases, or_from, or_left, or_right}
use Rattle.jcl_plan.specs.declared.plan.JobPlan.{JobPlan}
use Rattle.jcl_meaning.specs.declared.state.Place.{Place}
use Rattle.cb_meaning.specs.Writable.{kind_at}
use Rattle.world_meaning.specs.Admissions.{primary_asked}
use Rattle.world_meaning.specs.Tracks.{is_kept_for, kept_unless_made}
use Rattle.world_meaning.specs.Worlds.{Kept}
use Rattle.law_core.proofs.Elements.{contains_first, contains_later}
use Rattle.case_laws.specs.Cases.{HasTracks, is_asked}

-- the DD and the job of tracks that are kept
pub record IsOf (job : ℕ) (p : Place) (k : Kept) : Type 0 where
  pub job_is : (k.job == job) ≡ true
  pub step : k.step ≡ p.step
  pub dd : k.dd ≡ p.dd

pub is_of : (job : ℕ) (p : Place) (serial : List ℕ) (k : Kept) → is_kept_for job p serial k ≡ true → IsOf job p k
is_of job p serial k e =
    let a : ((k.job == job && k.step == p.step && k.dd == p.dd) ≡ true) × (bytes_eq serial p.serial ≡ true) =
    and_parts (k.job == job && k.step == p.step && k.dd == p.dd) (bytes_eq serial p.serial) e in
    let b : ((k.job == job && k.step == p.step) ≡ true) × ((k.dd == p.dd) ≡ true) = and_parts (k.job == job && k.step == p.step) (k.dd == p.dd) a.0 in
    let c : ((k.job == job) ≡ true) × ((k.step == p.step) ≡ true) = and_parts (k.job == job) (k.step == p.step) b.0 in
    record { job_is = c.0; step = eqb-true k.step p.step c.1; dd = eqb-true k.dd p.dd b.1 }

module _ (plan : JobPlan) (job : ℕ) (p : Place) where
  asked_is_of : (k : Kept) → is_asked plan job p k ≡ true → IsOf job p k
  asked_is_of k e = is_of job p p.serial k (and_parts (is_kept_for job p p.serial k) (k.tracks == primary_asked (kind_at plan.steps p.step p.dd)) e).0

  -- what passes a test that ample ones pass
  has_filtered : (test : Kept → Bool) → ((k : Kept) → is_asked plan job p k ≡ true → test k ≡ true) → (kept : List Kept) → HasTracks kept plan job p →
      HasTracks (filter test kept) plan job p
  has_filtered test pass [] h = absurd cc
  has_filtered test pass (k ∷ kept) h = by_place (or_cases (is_asked plan job p k) (list_any (is_asked plan job p) kept) h) (has_filtered test pass kept)
    where
      by_test : (b : Bool) → HasTracks (filter test kept) plan job p → HasTracks (cond b (k ∷ filter test kept) (filter test kept)) plan job p
      by_test true f = or_right (is_asked plan job p k) (list_any (is_asked plan job p) (filter test kept)) f
      by_test false f = f

      by_place : (is_asked plan job p k ≡ true) ⊎ (list_any (is_asked plan job p) kept ≡ true) →
          (HasTracks kept plan job p → HasTracks (filter test kept) plan job p) → HasTracks (filter test (k ∷ kept)) plan job p
      by_place (inl here) more =
          subst (λ (b : Bool). HasTracks (cond b (k ∷ filter test kept) (filter test kept)) plan job p) (sym (pass k here))
          (or_left (is_asked plan job p k) (list_any (is_asked plan job p) (filter test kept)) here)
      by_place (inr there) more = by_test (test k) (more there)

  has_unfiltered : (test : Kept → Bool) (kept : List Kept) → HasTracks (filter test kept) plan job p → HasTracks kept plan job p
  has_unfiltered test [] h = h
  has_unfiltered test (k ∷ kept) h = by_test (test k) h (has_unfiltered test kept)
    where
      by_place : (is_asked plan job p k ≡ true) ⊎ (list_any (is_asked plan job p) (filter test kept) ≡ true) →
          (HasTracks (filter test kept) plan job p → HasTracks kept plan job p) → HasTracks (k ∷ kept) plan job p
      by_place (inl here) more = or_left (is_asked plan job p k) (list_any (is_asked plan job p) kept) here
      by_place (inr there) more = or_right (is_asked plan job p k) (list_any (is_asked plan job p) kept) (more there)

      by_test : (b : Bool) → HasTracks (cond b (k ∷ filter test kept) (filter test kept)) plan job p →
          (HasTracks (filter test kept) plan job p → HasTracks kept plan job p) → HasTracks (k ∷ kept) plan job p
      by_test true f more = by_place (or_cases (is_asked plan job p k) (list_any (is_asked plan job p) (filter test kept)) f) more
      by_test false f more = or_right (is_asked plan job p k) (list_any (is_asked plan job p) kept) (more f)

  -- as long as those kept for the job are the same
  pub has_for_job : (old new : List Kept) → filter (λ k. k.job == job) new ≡ filter (λ k. k.job == job) old → HasTracks old plan job p → HasTracks new plan job p
  has_for_job old new e h =
      has_unfiltered (λ k. k.job == job) new (subst (λ (kept : List Kept). HasTracks kept plan job p) (sym e)
      (has_filtered (λ k. k.job == job) (λ k asked. (asked_is_of k asked).job_is) old h))

  -- as long as no set of its DD is made
  not_made : (made : List Place) (k : Kept) → ((q : Place) → Contains made q → p.step ≡ q.step → p.dd ≡ q.dd → ⊥) → is_asked plan job p k ≡ true →
      list_any (λ q. is_kept_for job q p.serial k) made ≡ false
  not_made [] k apart e = refl
  not_made (q ∷ made) k apart e =
      let mine : IsOf job p k = asked_is_of k e in
      or_from (is_kept_for job q p.serial k) (list_any (λ x. is_kept_for job x p.serial k) made)
      (false_from_ne_true (is_kept_for job q p.serial k) (λ is.
      let its : IsOf job q k = is_of job q p.serial k is in apart q (contains_first q made) (sym mine.step ∙ its.step) (sym mine.dd ∙ its.dd)))
      (not_made made k (λ x h. apart x (contains_later q x made h)) e)

  pub has_unless_made : (kept : List ℕ → List Kept) (made : List Place) → ((q : Place) → Contains made q → p.step ≡ q.step → p.dd ≡ q.dd → ⊥) →
      HasTracks (kept p.serial) plan job p → HasTracks (kept_unless_made kept job made p.serial) plan job p
  has_unless_made kept made apart h =
      has_filtered (λ k. not (list_any (λ q. is_kept_for job q p.serial k) made)) (λ k asked. ap not (not_made made k apart asked)) (kept p.serial) h
