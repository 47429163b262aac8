-- From two stores of which it sees the same as it starts a job does the same, as long as no fault is met.
use Rattle.std.proofs.Common.{◌≡◌, ◌+◌, ◌++◌, ◌==◌, ◌≤◌, ◌<◌, ℕ, zero, suc, Bool, true, false, List, [], ◌∷◌, drop, take, length, map, refl}
use Rattle.std.proofs.Common.{sym, ap, ◌∙◌, subst, arith, add-one, leb-true, leb-false}
use Rattle.std.specs.Prelude.{None, nat_le, if◌then◌else◌}
use Rattle.std.specs.List.{AllByRecursion}
use Rattle.std.proofs.lemmas.List.{drop_all, take_all}
use Rattle.jcl_plan.specs.declared.outcome.Outcome.{Outcome}
use Rattle.jcl_plan.specs.declared.plan.JobPlan.{JobPlan}
use Rattle.jcl_plan.specs.declared.plan.StepPlan.{StepPlan}
use Rattle.jcl_plan.specs.declared.plan.Test.{Test}
use Rattle.jcl_meaning.specs.Agendas.{steps_from}
use Rattle.jcl_meaning.specs.History.{satisfied}
use Rattle.jcl_meaning.specs.Programs.{moves_of}
use Rattle.jcl_meaning.specs.Solo.{Ran, at_start, given, is_clean, run, solo_path_of}
use Rattle.jcl_meaning.specs.States.{Answers, Fixed, State}
use Rattle.jcl_meaning.specs.Stores.{Store}
use Rattle.jcl_meaning.specs.Takes.{dd_volume}
use Rattle.jcl_meaning.specs.Views.{ran_to, steps_refer, view_at}
use Rattle.meaning_laws.specs.Laws.{behind, joined}
use Rattle.path_laws.specs.Paths.{before_part, part_ran}
use Rattle.path_laws.proofs.Before.{both_clean, fits_before, one_step_more, stands_before}
use Rattle.path_laws.proofs.Parts.{path_ends}
use Rattle.path_laws.proofs.Seeing.{fates_append}
use Rattle.path_laws.specs.PathParts.{MeetAlike, next_outcome}
use Rattle.path_laws.specs.ViewLaws.{DidTheSame}
use Rattle.path_laws.proofs.PartsLeave.{part_leaves}
use Rattle.path_laws.proofs.PartsSee.{part_sees}
use Rattle.start_laws.specs.Starts.{IsAnalysed, SeesSame}

-- what it sees is the same both ways
pub both_ways : (plan : JobPlan) (date : ℕ) (s t : Store) → SeesSame plan date s t → SeesSame plan date t s
both_ways plan date s t same = record { sets = λ key serial. sym (same.sets key serial); catalog = λ name. sym (same.catalog name) }

-- as it starts it has one view
one_view : (plan : JobPlan) (date : ℕ) (s t : Store) (answers : Answers) → SeesSame plan date s t →
    view_at plan 0 date (at_start s answers) ≡ view_at plan 0 date (at_start t answers)
one_view plan date s t answers same =
    λ i. record (view_at plan 0 date (at_start s answers)) { sets = λ key serial. same.sets key serial i; catalog = λ name. same.catalog name i }

-- an end is of one class with itself
meets_alike : (step : ℕ) (o : Outcome) (tests : List Test) → MeetAlike step o o tests
meets_alike step o [] = tt
meets_alike step o (test ∷ tests) = (refl, meets_alike step o tests)

steps_alike : (step : ℕ) (o : Outcome) (later : List StepPlan) → AllByRecursion (λ s. MeetAlike step o o s.tests.items) later
steps_alike step o [] = tt
steps_alike step o (s ∷ later) = (meets_alike step o s.tests.items, steps_alike step o later)

-- two runs, and two more behind them
pub joined_same : (plan : JobPlan) (date k count : ℕ) (a b x y : Ran) → DidTheSame plan date k a b → DidTheSame plan date (suc k) x y →
    DidTheSame plan date (suc k) (joined count a x) (joined count b y)
joined_same plan date k count a b x y first second = record {
  fates = fates_append a.lines x.lines ∙ ((λ i. first.fates i ++ second.fates i) ∙ sym (fates_append b.lines y.lines));
  faults = λ i. first.faults i ++ map (behind count) (second.faults i);
  made = λ i. first.made i ++ second.made i;
  view = second.view;
}

-- one of two runs that did the same is clean where the other is
pub as_clean : (plan : JobPlan) (date k : ℕ) (a b : Ran) → DidTheSame plan date k a b → is_clean a ≡ true → is_clean b ≡ true
as_clean plan date k a b same clean = ap (λ faults. length faults == 0) (sym same.faults) ∙ clean

-- Behind the last step no more is done, and no more is seen.
none_more : (plan : JobPlan) (k : ℕ) → length plan.steps ≤ k → take (suc k) plan.steps ≡ take k plan.steps
none_more plan k h = take_all (suc k) plan.steps (omega arith) ∙ sym (take_all k plan.steps h)

none_left : (plan : JobPlan) (k : ℕ) → length plan.steps ≤ k → drop (suc k) plan.steps ≡ drop k plan.steps
none_left plan k h = drop_all (suc k) plan.steps (omega arith) ∙ sym (drop_all k plan.steps h)

ran_no_more : (fixed : Fixed) (plan : JobPlan) (store : Store) (k : ℕ) (os : List Outcome) → length plan.steps ≤ k →
    ran_to fixed plan store (suc k) os ≡ ran_to fixed plan store k os
ran_no_more fixed plan store k os h = ap (λ steps. run fixed (steps_from (moves_of []) 1 steps) (at_start store (given os))) (none_more plan k h)

sees_no_more : (plan : JobPlan) (date k : ℕ) (s : State) → length plan.steps ≤ k → view_at plan (suc k) date s ≡ view_at plan k date s
sees_no_more plan date k s h = λ i. record (view_at plan k date s) {
  volumes = λ step dd. if steps_refer (none_left plan k h i) step dd then dd_volume s.own.volumes step dd else None;
  step_tests = map (λ step. map (satisfied s.own.ended) step.tests.items) (none_left plan k h i);
}

no_more_same : (plan : JobPlan) (date k : ℕ) (a b : Ran) → length plan.steps ≤ k → DidTheSame plan date k a b → DidTheSame plan date (suc k) a b
no_more_same plan date k a b h same = record {
  fates = same.fates;
  faults = same.faults;
  made = same.made;
  view = sees_no_more plan date k a.state h ∙ (same.view ∙ sym (sees_no_more plan date k b.state h));
}

clean_before : (fixed : Fixed) (plan : JobPlan) (store : Store) (k : ℕ) (os : List Outcome) → k < length plan.steps →
    is_clean (ran_to fixed plan store (suc k) os) ≡ true → is_clean (ran_to fixed plan store k os) ≡ true
clean_before fixed plan store k os h clean =
    (both_clean (before_part plan k) (ran_to fixed plan store k os) (part_ran fixed plan store k os)
    (ap is_clean (sym (one_step_more fixed plan store k os h)) ∙ clean)).0

module _ (fixed : Fixed) (plan : JobPlan) (s t : Store) (ready : IsAnalysed fixed plan) (same : SeesSame plan fixed.date s t) (os : List Outcome) where
  -- the first k steps did the same
  abbrev pub SameTo : ℕ → Type 0
  SameTo k = DidTheSame plan fixed.date k (ran_to fixed plan s k os) (ran_to fixed plan t k os)

  -- a part does
  pub part_same : (k : ℕ) → k ≤ length plan.steps → is_clean (ran_to fixed plan s k os) ≡ true → SameTo k →
      DidTheSame plan fixed.date (suc k) (part_ran fixed plan s k os) (part_ran fixed plan t k os)
  part_same k h clean earlier =
      let ahead = fits_before fixed plan s k os h ready.fits in
      subst (λ n. DidTheSame plan fixed.date n (part_ran fixed plan s k os) (part_ran fixed plan t k os)) (add-one k)
      (part_sees plan fixed k ahead.0 (ran_to fixed plan s k os).state (ran_to fixed plan t k os).state (drop k os) (drop k os) ready.tests earlier.view
      (stands_before part_leaves fixed plan s k os h clean)
      (stands_before part_leaves fixed plan t k os h (as_clean plan fixed.date k (ran_to fixed plan s k os) (ran_to fixed plan t k os) earlier clean))
      (λ runs. record {
        abend = refl;
        job = meets_alike (k + 1) (next_outcome (drop k os)) plan.tests.items;
        steps = steps_alike (k + 1) (next_outcome (drop k os)) (drop (k + 1) plan.steps);
      })
      ahead.1)

  -- and one step more, even if it meets a fault
  pub step_same : (k : ℕ) → k < length plan.steps → is_clean (ran_to fixed plan s k os) ≡ true → SameTo k → SameTo (suc k)
  step_same k h clean earlier =
      subst (λ (r : Ran). DidTheSame plan fixed.date (suc k) r (ran_to fixed plan t (suc k) os)) (sym (one_step_more fixed plan s k os h))
      (subst (DidTheSame plan fixed.date (suc k) (joined (before_part plan k) (ran_to fixed plan s k os) (part_ran fixed plan s k os)))
      (sym (one_step_more fixed plan t k os h))
      (joined_same plan fixed.date k (before_part plan k) (ran_to fixed plan s k os) (ran_to fixed plan t k os) (part_ran fixed plan s k os)
      (part_ran fixed plan t k os) earlier (part_same k (omega arith) clean earlier)))

  -- so do all steps up to the first fault
  one_more_same : (k : ℕ) → is_clean (ran_to fixed plan s (suc k) os) ≡ true → (is_clean (ran_to fixed plan s k os) ≡ true → SameTo k) → SameTo (suc k)
  one_more_same k clean before = by_end (nat_le (length plan.steps) k) refl
    where
      by_end : (b : Bool) → nat_le (length plan.steps) k ≡ b → SameTo (suc k)
      by_end true e =
          let h : length plan.steps ≤ k = leb-true (length plan.steps) k e in
          subst (λ (r : Ran). DidTheSame plan fixed.date (suc k) r (ran_to fixed plan t (suc k) os)) (sym (ran_no_more fixed plan s k os h))
          (subst (DidTheSame plan fixed.date (suc k) (ran_to fixed plan s k os)) (sym (ran_no_more fixed plan t k os h))
          (no_more_same plan fixed.date k (ran_to fixed plan s k os) (ran_to fixed plan t k os) h
          (before (ap is_clean (sym (ran_no_more fixed plan s k os h)) ∙ clean))))
      by_end false e =
          let h : k < length plan.steps = leb-false (length plan.steps) k e in
          let earlier : is_clean (ran_to fixed plan s k os) ≡ true = clean_before fixed plan s k os h clean in
          step_same k h earlier (before earlier)

  pub same_to : (k : ℕ) → is_clean (ran_to fixed plan s k os) ≡ true → SameTo k
  unfolding run
  same_to zero clean = record { fates = refl; faults = refl; made = refl; view = one_view plan fixed.date s t (given os) same }
  same_to (suc k) clean = one_more_same k clean (same_to k)

  -- a whole path whose steps meet no fault, with the job's end
  abbrev pub SamePath : Type 0
  SamePath = DidTheSame plan fixed.date (suc (length plan.steps)) (solo_path_of fixed plan s os) (solo_path_of fixed plan t os)

  pub same_path : is_clean (ran_to fixed plan s (length plan.steps) os) ≡ true → SamePath
  same_path clean =
      let n : ℕ = length plan.steps in
      let earlier : SameTo n = same_to n clean in
      subst (λ (r : Ran). DidTheSame plan fixed.date (suc n) r (solo_path_of fixed plan t os)) (sym (path_ends fixed plan s os))
      (subst (DidTheSame plan fixed.date (suc n) (joined (before_part plan n) (ran_to fixed plan s n os) (part_ran fixed plan s n os)))
      (sym (path_ends fixed plan t os))
      (joined_same plan fixed.date n (before_part plan n) (ran_to fixed plan s n os) (ran_to fixed plan t n os) (part_ran fixed plan s n os)
      (part_ran fixed plan t n os) earlier (part_same n (omega arith) clean earlier)))
