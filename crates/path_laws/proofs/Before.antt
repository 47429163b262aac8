-- What stands before a part, behind the steps that come earlier.
use Rattle.std.proofs.Common.{◌≡◌, ◌+◌, ◌++◌, ◌==◌, ◌≤◌, ◌<◌, ℕ, zero, suc, true, List, [], ◌∷◌, drop, length, map, refl, sym, ap, ◌∙◌, subst, arith}
use Rattle.std.proofs.Common.{add-one, eqb-true}
use Rattle.std.proofs.lemmas.List.{length-append, length-drop, length-map}
use Rattle.jcl_plan.specs.declared.outcome.Outcome.{Outcome}
use Rattle.jcl_plan.specs.declared.plan.JobPlan.{JobPlan}
use Rattle.jcl_plan.specs.declared.plan.StepPlan.{StepPlan}
use Rattle.jcl_meaning.specs.Agendas.{Action, path_agenda}
use Rattle.jcl_meaning.specs.Names.{names_of}
use Rattle.jcl_meaning.specs.Solo.{Ran, at_start, given, is_clean, nothing_own, run}
use Rattle.jcl_meaning.specs.States.{Fixed, State, others}
use Rattle.jcl_meaning.specs.Stores.{Store}
use Rattle.jcl_meaning.specs.Views.{ran_to}
use Rattle.meaning_laws.specs.Laws.{behind, joined}
use Rattle.part_laws.specs.Fits.{Fits}
use Rattle.part_laws.proofs.RunsAlike.{run_fits}
use Rattle.path_laws.specs.PathParts.{IsBefore, path_part}
use Rattle.path_laws.specs.ViewLaws.{PartLeaves}
use Rattle.path_laws.specs.Paths.{before_part, part_ran}
use Rattle.path_laws.proofs.Parts.{cut_at_part, front_of, path_goes_on}

pub fits_before : (fixed : Fixed) (plan : JobPlan) (store : Store) (k : ℕ) (outcomes : List Outcome) → k ≤ length plan.steps →
    Fits (names_of plan) fixed.meanings (path_agenda plan) nothing_own →
    (rest : List Action) × Fits (names_of plan) fixed.meanings (path_part plan k ++ rest) (ran_to fixed plan store k outcomes).state.own
fits_before fixed plan store k outcomes h fits =
    let cut = cut_at_part plan k in (
      cut.rest,
      run_fits (names_of plan) fixed (front_of plan k) (path_part plan k ++ cut.rest) (at_start store (given outcomes))
          (subst (λ (actions : List Action). Fits (names_of plan) fixed.meanings actions nothing_own) cut.whole fits),
    )

-- one step more
pub one_step_more : (fixed : Fixed) (plan : JobPlan) (store : Store) (k : ℕ) (outcomes : List Outcome) → k < length plan.steps →
    ran_to fixed plan store (suc k) outcomes ≡ joined (before_part plan k) (ran_to fixed plan store k outcomes) (part_ran fixed plan store k outcomes)
one_step_more fixed plan store k outcomes h =
    ap (λ n. ran_to fixed plan store n outcomes) (sym (add-one k)) ∙ path_goes_on fixed plan store k outcomes h

-- both of two runs in a row are clean where they are together
pub both_clean : (count : ℕ) (a b : Ran) → is_clean (joined count a b) ≡ true → (is_clean a ≡ true) × (is_clean b ≡ true)
both_clean count a b h =
    let none : length (a.faults ++ map (behind count) b.faults) ≡ 0 = eqb-true (length (a.faults ++ map (behind count) b.faults)) 0 h in
    let sum : length (a.faults ++ map (behind count) b.faults) ≡ length a.faults + length (map (behind count) b.faults)
    = length-append a.faults (map (behind count) b.faults) in
    let same : length (map (behind count) b.faults) ≡ length b.faults = length-map b.faults (behind count) in
    let first : length a.faults ≡ 0 = omega arith in
    let second : length b.faults ≡ 0 = omega arith in
    (ap (λ n. n == 0) first, ap (λ n. n == 0) second)

pub others_left : {X : Type 0} (k : ℕ) (xs : List X) → others (drop k xs) ≡ drop (suc k) xs
others_left zero [] = refl
others_left zero (x ∷ xs) = refl
others_left (suc k) [] = refl
others_left (suc k) (x ∷ xs) = others_left k xs

-- Behind one step more the outcomes of the steps behind it are left, by what a step leaves.
stands_behind : PartLeaves → (fixed : Fixed) (plan : JobPlan) (store : Store) (k : ℕ) (outcomes : List Outcome) → k < length plan.steps →
    is_clean (ran_to fixed plan store (suc k) outcomes) ≡ true →
    (is_clean (ran_to fixed plan store k outcomes) ≡ true → IsBefore (ran_to fixed plan store k outcomes).state (drop k outcomes)) →
    IsBefore (ran_to fixed plan store (suc k) outcomes).state (drop (suc k) outcomes)
stands_behind leaves fixed plan store k outcomes h clean earlier = by_rest (drop k plan.steps) refl
  where
    more : ran_to fixed plan store (suc k) outcomes ≡ joined (before_part plan k) (ran_to fixed plan store k outcomes) (part_ran fixed plan store k outcomes)
    more = one_step_more fixed plan store k outcomes h

    parts : (is_clean (ran_to fixed plan store k outcomes) ≡ true) × (is_clean (part_ran fixed plan store k outcomes) ≡ true)
    parts = both_clean (before_part plan k) (ran_to fixed plan store k outcomes) (part_ran fixed plan store k outcomes) (ap is_clean (sym more) ∙ clean)

    by_rest : (steps : List StepPlan) → drop k plan.steps ≡ steps → IsBefore (ran_to fixed plan store (suc k) outcomes).state (drop (suc k) outcomes)
    by_rest [] e = let size : length (drop k plan.steps) ≡ 0 = ap length e in absurd (omega (arith, length-drop k plan.steps))
    by_rest (step ∷ later) e =
        subst (λ (s : State). IsBefore s (drop (suc k) outcomes)) (ap (λ (r : Ran). r.state) (sym more))
        (subst (IsBefore (part_ran fixed plan store k outcomes).state) (others_left k outcomes)
        (leaves plan fixed k step later (ran_to fixed plan store k outcomes).state (drop k outcomes) e (earlier parts.0) parts.1))

pub stands_before : PartLeaves → (fixed : Fixed) (plan : JobPlan) (store : Store) (k : ℕ) (outcomes : List Outcome) → k ≤ length plan.steps →
    is_clean (ran_to fixed plan store k outcomes) ≡ true → IsBefore (ran_to fixed plan store k outcomes).state (drop k outcomes)
unfolding run
stands_before leaves fixed plan store zero outcomes h clean = record { unfaulted = refl; answers = refl }
stands_before leaves fixed plan store (suc k) outcomes h clean =
    stands_behind leaves fixed plan store k outcomes (omega arith) clean (stands_before leaves fixed plan store k outcomes (omega arith))
