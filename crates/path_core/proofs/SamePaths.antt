-- Along what a path shows of outcomes a job does the same as along them.
use Rattle.std.proofs.Common.{◌≡◌, ◌+◌, ◌++◌, ◌==◌, ◌≤◌, ◌<◌, ℕ, zero, suc, true, List, [], ◌∷◌, Some, drop, take, length, map, refl, sym, ap, ◌∙◌, subst, arith, add-one}
use Rattle.std.specs.Prelude.{slice_get}
use Rattle.jcl_plan.specs.declared.entry.JobLine.{JobLine}
use Rattle.jcl_plan.specs.declared.outcome.Fate.{Fate}
use Rattle.jcl_plan.specs.declared.outcome.Fate.TheVariants.{Run}
use Rattle.jcl_plan.specs.declared.outcome.Outcome.{Outcome}
use Rattle.jcl_plan.specs.declared.plan.JobPlan.{JobPlan}
use Rattle.jcl_plan.specs.declared.plan.StepPlan.{StepPlan}
use Rattle.jcl_meaning.specs.Agendas.{path_agenda}
use Rattle.jcl_meaning.specs.Names.{names_of}
use Rattle.jcl_meaning.specs.Solo.{Ran, is_clean, nothing_own, run, solo_path_of}
use Rattle.jcl_meaning.specs.States.{Fixed}
use Rattle.jcl_meaning.specs.Stores.{Store}
use Rattle.jcl_meaning.specs.Views.{ran_to}
use Rattle.meaning_laws.specs.Laws.{behind, joined}
use Rattle.part_laws.specs.Fits.{Fits}
use Rattle.path_meaning.specs.Paths.{fates_in, path_shown}
use Rattle.path_laws.specs.Paths.{before_part, part_ran}
use Rattle.path_laws.proofs.Before.{both_clean, fits_before, one_step_more, stands_before}
use Rattle.path_laws.proofs.Fates.{tells_fates}
use Rattle.path_laws.proofs.Parts.{get_behind, get_in_front, path_begins}
use Rattle.path_laws.proofs.Seeing.{fates_append}
use Rattle.path_laws.proofs.Starting.{step_starts}
use Rattle.path_laws.specs.PathParts.{IsBefore, part_runs}
use Rattle.path_laws.specs.ViewLaws.{DidTheSame}
use Rattle.path_laws.proofs.PartsLeave.{part_leaves}
use Rattle.path_laws.proofs.PartsSee.{part_sees}
use Rattle.path_core.proofs.ShownOutcomes.{next_shown}

module _ (fixed : Fixed) (plan : JobPlan) (store : Store) where
  pub stands : (k : ℕ) (os : List Outcome) → k ≤ length plan.steps → is_clean (ran_to fixed plan store k os) ≡ true →
      IsBefore (ran_to fixed plan store k os).state (drop k os)
  stands k os h clean = stands_before part_leaves fixed plan store k os h clean

  -- the fates of the first steps, of a whole path
  pub front_fates : (k : ℕ) (os : List Outcome) →
      (more : List Fate) × (fates_in (solo_path_of fixed plan store os).lines ≡ fates_in (ran_to fixed plan store k os).lines ++ more)
  front_fates k os =
      let begins = path_begins fixed plan store k os in
      (fates_in begins.0.lines, ap (λ (r : Ran). fates_in r.lines) begins.1 ∙ fates_append (ran_to fixed plan store k os).lines begins.0.lines)

  take_front : (n : ℕ) (xs ys : List Fate) → length xs ≡ n → take n (xs ++ ys) ≡ xs
  take_front zero [] ys e = refl
  take_front zero (x ∷ xs) ys e = absurd (omega arith)
  take_front (suc n) [] ys e = absurd (omega arith)
  take_front (suc n) (x ∷ xs) ys e = ap (λ zs. x ∷ zs) (take_front n xs ys (omega arith))

  pub first_fates : (k : ℕ) (os : List Outcome) → k ≤ length plan.steps →
      take k (fates_in (solo_path_of fixed plan store os).lines) ≡ fates_in (ran_to fixed plan store k os).lines
  first_fates k os h =
      let front = front_fates k os in
      ap (take k) front.1 ∙ take_front k (fates_in (ran_to fixed plan store k os).lines) front.0 (tells_fates fixed plan store k os h)

  -- a step that runs tells so
  part_tells : (k : ℕ) (os : List Outcome) (steps : List StepPlan) → drop k plan.steps ≡ steps → IsBefore (ran_to fixed plan store k os).state (drop k os) →
      part_runs fixed steps (ran_to fixed plan store k os).state.own ≡ true → fates_in (part_ran fixed plan store k os).lines ≡ Run ∷ []
  part_tells k os [] e before runs = absurd cc
  part_tells k os (step ∷ later) e before runs =
      (step_starts plan fixed k step later (ran_to fixed plan store k os).state (drop k os) e before runs).fates

  pub run_told : (k : ℕ) (os : List Outcome) → k < length plan.steps → is_clean (ran_to fixed plan store k os) ≡ true →
      part_runs fixed (drop k plan.steps) (ran_to fixed plan store k os).state.own ≡ true →
      slice_get (fates_in (solo_path_of fixed plan store os).lines) k ≡ Some Run
  run_told k os h clean runs =
      let before : List JobLine = (ran_to fixed plan store k os).lines in
      let here : List JobLine = (part_ran fixed plan store k os).lines in
      let whole = front_fates (suc k) os in
      let size : length (fates_in before) ≡ k = tells_fates fixed plan store k os (omega arith) in
      let number : length (fates_in before) + 0 ≡ k = omega arith in
      let fates : fates_in (ran_to fixed plan store (suc k) os).lines ≡ fates_in before ++ Run ∷ [] =
      ap (λ (r : Ran). fates_in r.lines) (one_step_more fixed plan store k os h) ∙ fates_append before here
      ∙ ap (λ fs. fates_in before ++ fs) (part_tells k os (drop k plan.steps) refl (stands k os (omega arith) clean) runs) in
      ap (λ fs. slice_get fs k) (whole.1 ∙ ap (λ fs. fs ++ whole.0) fates)
      ∙ get_in_front (fates_in before ++ Run ∷ []) whole.0 k Run
      (ap (slice_get (fates_in before ++ Run ∷ [])) (sym number) ∙ get_behind (fates_in before) (Run ∷ []) 0)

  joined_same : (k count : ℕ) (a b x y : Ran) → DidTheSame plan fixed.date k a b → DidTheSame plan fixed.date (suc k) x y →
      DidTheSame plan fixed.date (suc k) (joined count a x) (joined count b y)
  joined_same k count a b x y first second = record {
    fates = fates_append a.lines x.lines ∙ ((λ i. first.fates i ++ second.fates i) ∙ sym (fates_append b.lines y.lines));
    faults = λ i. first.faults i ++ map (behind count) (second.faults i);
    made = λ i. first.made i ++ second.made i;
    view = second.view;
  }

  module _ (job : fixed.job_tests ≡ plan.tests.items) (fits : Fits (names_of plan) fixed.meanings (path_agenda plan) nothing_own)
      (os : List Outcome) (fates : List Fate) where
    abbrev ps : List Outcome
    ps = path_shown fates os

    -- a part does the same, if the fate of its step is told where it runs
    pub part_same : (k : ℕ) → k ≤ length plan.steps → is_clean (ran_to fixed plan store k os) ≡ true →
        DidTheSame plan fixed.date k (ran_to fixed plan store k os) (ran_to fixed plan store k (path_shown fates os)) →
        (part_runs fixed (drop k plan.steps) (ran_to fixed plan store k os).state.own ≡ true → slice_get fates k ≡ Some Run) →
        DidTheSame plan fixed.date (suc k) (part_ran fixed plan store k os) (part_ran fixed plan store k (path_shown fates os))
    part_same k h clean earlier told =
        let clean_too : is_clean (ran_to fixed plan store k ps) ≡ true = ap (λ faults. length faults == 0) (sym earlier.faults) ∙ clean in
        let ahead = fits_before fixed plan store k os h fits in
        subst (λ n. DidTheSame plan fixed.date n (part_ran fixed plan store k os) (part_ran fixed plan store k ps)) (add-one k)
        (part_sees plan fixed k ahead.0 (ran_to fixed plan store k os).state (ran_to fixed plan store k ps).state (drop k os) (drop k ps) job earlier.view
        (stands k os h clean) (stands k ps h clean_too)
        (λ runs. next_shown k (k + 1) plan.tests.items (drop (k + 1) plan.steps) fates os (told runs))
        ahead.1)

    pub step_same : (k : ℕ) → k < length plan.steps → is_clean (ran_to fixed plan store k os) ≡ true →
        DidTheSame plan fixed.date k (ran_to fixed plan store k os) (ran_to fixed plan store k (path_shown fates os)) →
        (part_runs fixed (drop k plan.steps) (ran_to fixed plan store k os).state.own ≡ true → slice_get fates k ≡ Some Run) →
        DidTheSame plan fixed.date (suc k) (ran_to fixed plan store (suc k) os) (ran_to fixed plan store (suc k) (path_shown fates os))
    step_same k h clean earlier told =
        subst (λ (r : Ran). DidTheSame plan fixed.date (suc k) r (ran_to fixed plan store (suc k) ps)) (sym (one_step_more fixed plan store k os h))
        (subst (DidTheSame plan fixed.date (suc k) (joined (before_part plan k) (ran_to fixed plan store k os) (part_ran fixed plan store k os)))
        (sym (one_step_more fixed plan store k ps h))
        (joined_same k (before_part plan k) (ran_to fixed plan store k os) (ran_to fixed plan store k ps) (part_ran fixed plan store k os)
        (part_ran fixed plan store k ps) earlier (part_same k (omega arith) clean earlier told)))

    clean_before : (k : ℕ) → k < length plan.steps → is_clean (ran_to fixed plan store (suc k) os) ≡ true → is_clean (ran_to fixed plan store k os) ≡ true
    clean_before k h clean =
        (both_clean (before_part plan k) (ran_to fixed plan store k os) (part_ran fixed plan store k os)
        (ap is_clean (sym (one_step_more fixed plan store k os h)) ∙ clean)).0

    pub same_to : (k : ℕ) → k ≤ length plan.steps → is_clean (ran_to fixed plan store k os) ≡ true →
        ((n : ℕ) → n < k → is_clean (ran_to fixed plan store n os) ≡ true →
        part_runs fixed (drop n plan.steps) (ran_to fixed plan store n os).state.own ≡ true → slice_get fates n ≡ Some Run) →
        DidTheSame plan fixed.date k (ran_to fixed plan store k os) (ran_to fixed plan store k (path_shown fates os))
    unfolding run
    same_to zero h clean told = record { fates = refl; faults = refl; made = refl; view = refl }
    same_to (suc k) h clean told =
        let earlier : is_clean (ran_to fixed plan store k os) ≡ true = clean_before k (omega arith) clean in
        step_same k (omega arith) earlier (same_to k (omega arith) earlier (λ n less. told n (omega arith))) (told k (omega arith) earlier)
