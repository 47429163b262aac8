-- Steps do the same, whatever the outcomes of later ones are.
use Rattle.std.proofs.Common.{◌≡◌, ◌+◌, ◌++◌, ◌==◌, ◌≤◌, ◌<◌, ℕ, zero, suc, true, List, [], ◌∷◌, drop, length, map, refl, sym, ap, ◌∙◌, subst, arith, add-one}
use Rattle.std.specs.List.{AllByRecursion}
use Rattle.std.proofs.lemmas.List.Elements.{filter_map-append}
use Rattle.jcl_plan.specs.declared.entry.JobLine.{JobLine}
use Rattle.jcl_plan.specs.declared.outcome.Outcome.{Outcome}
use Rattle.jcl_plan.specs.declared.plan.JobPlan.{JobPlan}
use Rattle.jcl_plan.specs.declared.plan.StepPlan.{StepPlan}
use Rattle.jcl_plan.specs.declared.plan.Test.{Test}
use Rattle.jcl_meaning.specs.Agendas.{path_agenda}
use Rattle.jcl_meaning.specs.Names.{names_of}
use Rattle.jcl_meaning.specs.Solo.{Ran, is_clean, nothing_own, run}
use Rattle.jcl_meaning.specs.States.{Fixed}
use Rattle.jcl_meaning.specs.Stores.{Store}
use Rattle.jcl_meaning.specs.Views.{ran_to}
use Rattle.meaning_laws.specs.Laws.{behind, joined}
use Rattle.part_laws.specs.Fits.{Fits}
use Rattle.path_meaning.specs.Paths.{fate_told, fates_in}
use Rattle.path_laws.specs.PathParts.{IsOneClass, MeetAlike, next_outcome}
use Rattle.path_laws.specs.ViewLaws.{DidTheSame, PartSees}
use Rattle.path_laws.specs.Paths.{StandsBefore, before_part, part_ran}
use Rattle.path_laws.proofs.Before.{both_clean, fits_before, one_step_more}

-- an end is of one class with itself
meets_alike : (step : ℕ) (o : Outcome) (tests : List Test) → MeetAlike step o o tests
meets_alike step o [] = tt
meets_alike step o (test ∷ tests) = (refl, meets_alike step o tests)

steps_alike : (step : ℕ) (o : Outcome) (later : List StepPlan) → AllByRecursion (λ s. MeetAlike step o o s.tests.items) later
steps_alike step o [] = tt
steps_alike step o (s ∷ later) = (meets_alike step o s.tests.items, steps_alike step o later)

pub one_class : (step : ℕ) (job_tests : List Test) (later : List StepPlan) (o p : Outcome) → o ≡ p → IsOneClass step job_tests later o p
one_class step job_tests later o p e =
    subst (IsOneClass step job_tests later o) e (record { abend = refl; job = meets_alike step o job_tests; steps = steps_alike step o later })

pub fates_append : (xs ys : List JobLine) → fates_in (xs ++ ys) ≡ fates_in xs ++ fates_in ys
fates_append xs ys = filter_map-append fate_told xs ys

-- two runs, and two more behind them
joined_same : (plan : JobPlan) (date k count : ℕ) (a b x y : Ran) → DidTheSame plan date k a b → DidTheSame plan date (suc k) x y →
    DidTheSame plan date (suc k) (joined count a x) (joined count b y)
joined_same plan date k count a b x y first second = record {
  fates = fates_append a.lines x.lines ∙ ((λ i. first.fates i ++ second.fates i) ∙ sym (fates_append b.lines y.lines));
  faults = λ i. first.faults i ++ map (behind count) (second.faults i);
  made = λ i. first.made i ++ second.made i;
  view = second.view;
}

-- One step more does the same, by what a step sees.
step_sees : PartSees → StandsBefore → (fixed : Fixed) (plan : JobPlan) (store : Store) (k : ℕ) (os ps : List Outcome) → k < length plan.steps →
    fixed.job_tests ≡ plan.tests.items → Fits (names_of plan) fixed.meanings (path_agenda plan) nothing_own →
    IsOneClass (k + 1) plan.tests.items (drop (k + 1) plan.steps) (next_outcome (drop k os)) (next_outcome (drop k ps)) →
    is_clean (ran_to fixed plan store (suc k) os) ≡ true →
    (is_clean (ran_to fixed plan store k os) ≡ true → DidTheSame plan fixed.date k (ran_to fixed plan store k os) (ran_to fixed plan store k ps)) →
    DidTheSame plan fixed.date (suc k) (ran_to fixed plan store (suc k) os) (ran_to fixed plan store (suc k) ps)
step_sees sees stands fixed plan store k os ps h tests fits same clean before =
    subst (λ (r : Ran). DidTheSame plan fixed.date (suc k) r (ran_to fixed plan store (suc k) ps)) (sym os_more)
    (subst (DidTheSame plan fixed.date (suc k) (joined (before_part plan k) (ran_to fixed plan store k os) (part_ran fixed plan store k os))) (sym ps_more)
    (joined_same plan fixed.date k (before_part plan k) (ran_to fixed plan store k os) (ran_to fixed plan store k ps) (part_ran fixed plan store k os)
    (part_ran fixed plan store k ps) earlier part))
  where
    os_more : ran_to fixed plan store (suc k) os ≡ joined (before_part plan k) (ran_to fixed plan store k os) (part_ran fixed plan store k os)
    os_more = one_step_more fixed plan store k os h

    ps_more : ran_to fixed plan store (suc k) ps ≡ joined (before_part plan k) (ran_to fixed plan store k ps) (part_ran fixed plan store k ps)
    ps_more = one_step_more fixed plan store k ps h

    clean_before : is_clean (ran_to fixed plan store k os) ≡ true
    clean_before = (both_clean (before_part plan k) (ran_to fixed plan store k os) (part_ran fixed plan store k os) (ap is_clean (sym os_more) ∙ clean)).0

    earlier : DidTheSame plan fixed.date k (ran_to fixed plan store k os) (ran_to fixed plan store k ps)
    earlier = before clean_before

    clean_too : is_clean (ran_to fixed plan store k ps) ≡ true
    clean_too = ap (λ faults. length faults == 0) (sym earlier.faults) ∙ clean_before

    part : DidTheSame plan fixed.date (suc k) (part_ran fixed plan store k os) (part_ran fixed plan store k ps)
    part =
        let ahead = fits_before fixed plan store k os (omega arith) fits in
        subst (λ n. DidTheSame plan fixed.date n (part_ran fixed plan store k os) (part_ran fixed plan store k ps)) (add-one k)
        (sees plan fixed k ahead.0 (ran_to fixed plan store k os).state (ran_to fixed plan store k ps).state (drop k os) (drop k ps) tests earlier.view
        (stands fixed plan store k os (omega arith) clean_before) (stands fixed plan store k ps (omega arith) clean_too)
        (λ runs. same) ahead.1)

-- along outcomes that nothing later tells apart
pub path_sees_alike : PartSees → StandsBefore → (fixed : Fixed) (plan : JobPlan) (store : Store) (k : ℕ) (os ps : List Outcome) → k ≤ length plan.steps →
    fixed.job_tests ≡ plan.tests.items → Fits (names_of plan) fixed.meanings (path_agenda plan) nothing_own →
    ((n : ℕ) → n < k → IsOneClass (n + 1) plan.tests.items (drop (n + 1) plan.steps) (next_outcome (drop n os)) (next_outcome (drop n ps))) →
    is_clean (ran_to fixed plan store k os) ≡ true → DidTheSame plan fixed.date k (ran_to fixed plan store k os) (ran_to fixed plan store k ps)
unfolding run
path_sees_alike sees stands fixed plan store zero os ps h tests fits same clean = record { fates = refl; faults = refl; made = refl; view = refl }
path_sees_alike sees stands fixed plan store (suc k) os ps h tests fits same clean =
    step_sees sees stands fixed plan store k os ps (omega arith) tests fits (same k (omega arith)) clean
    (path_sees_alike sees stands fixed plan store k os ps (omega arith) tests fits (λ n below. same n (omega arith)))

pub path_sees : PartSees → StandsBefore → (fixed : Fixed) (plan : JobPlan) (store : Store) (k : ℕ) (os ps : List Outcome) → k ≤ length plan.steps →
    fixed.job_tests ≡ plan.tests.items → Fits (names_of plan) fixed.meanings (path_agenda plan) nothing_own →
    ((n : ℕ) → n < k → next_outcome (drop n os) ≡ next_outcome (drop n ps)) → is_clean (ran_to fixed plan store k os) ≡ true →
    DidTheSame plan fixed.date k (ran_to fixed plan store k os) (ran_to fixed plan store k ps)
path_sees sees stands fixed plan store k os ps h tests fits same clean =
    path_sees_alike sees stands fixed plan store k os ps h tests fits
    (λ n below. one_class (n + 1) plan.tests.items (drop (n + 1) plan.steps) (next_outcome (drop n os)) (next_outcome (drop n ps)) (same n below)) clean
