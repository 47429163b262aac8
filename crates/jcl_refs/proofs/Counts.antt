-- How many DDs each step has.
use Rattle.std.proofs.Common.{◌≡◌, ℕ, zero, suc, ◌+◌, ◌<◌, List, [], ◌∷◌, drop, length, slice_index_or, slice_set, refl, ap, sym, ◌∙◌, arith, add-one}
use Rattle.jcl_plan.specs.declared.plan.StepPlan.{StepPlan}
use Rattle.jcl_procs.specs.declared.step.FlatStep.{FlatStep}
use Rattle.jcl_refs.specs.Planning.{counts_in, planned_counts}

pub as_many : (steps : List FlatStep) (plans : List StepPlan) → counts_in steps ≡ planned_counts plans → length steps ≡ length plans
as_many [] [] same = omega (arith)
as_many [] (p ∷ plans) same = cc
as_many (s ∷ steps) [] same = cc
as_many (s ∷ steps) (p ∷ plans) same =
    let rest : counts_in steps ≡ planned_counts plans = cc in
    ap (λ n. suc n) (as_many steps plans rest)

pub count_here : (n : ℕ) (steps : List FlatStep) (plans : List StepPlan) (s : FlatStep) (p : StepPlan) → n < length steps →
    counts_in (drop n steps) ≡ planned_counts (drop n plans) → s ≡ slice_index_or steps n s → length s.dds ≡ length (slice_index_or plans n p).dds
count_here n [] plans s p lt same at = absurd (omega (arith, lt))
count_here zero (x ∷ steps) [] s p lt same at = cc
count_here zero (x ∷ steps) (y ∷ plans) s p lt same at =
    let first : length x.dds ≡ length y.dds = cc in
    ap (λ (z : FlatStep). length z.dds) at ∙ first
count_here (suc n) (x ∷ steps) [] s p lt same at = absurd (none_left n steps (omega (arith, lt)) same)
  where
    none_left : (n : ℕ) (steps : List FlatStep) → n < length steps → counts_in (drop n steps) ≡ [] → ⊥
    none_left n [] lt same = absurd (omega (arith, lt))
    none_left zero (x ∷ steps) lt same = cc
    none_left (suc n) (x ∷ steps) lt same = none_left n steps (omega (arith, lt)) same
count_here (suc n) (x ∷ steps) (y ∷ plans) s p lt same at = count_here n steps plans s p (omega (arith, lt)) same at

counts_by : (n : ℕ) (steps : List FlatStep) (plans : List StepPlan) (new : StepPlan) → n < length steps →
    counts_in (drop n steps) ≡ planned_counts (drop n plans) → counts_in (drop (suc n) steps) ≡ planned_counts (drop (suc n) (slice_set plans n new))
counts_by n [] plans new lt same = absurd (omega (arith, lt))
counts_by zero (x ∷ steps) [] new lt same = cc
counts_by zero (x ∷ steps) (y ∷ plans) new lt same = cc
counts_by (suc n) (x ∷ steps) [] new lt same = counts_by n steps [] new (omega (arith, lt)) (same ∙ none n)
  where
    none : (n : ℕ) → planned_counts [] ≡ planned_counts (drop n [])
    none zero = refl
    none (suc n) = refl
counts_by (suc n) (x ∷ steps) (y ∷ plans) new lt same = counts_by n steps plans new (omega (arith, lt)) same

pub counts_behind : (n : ℕ) (steps : List FlatStep) (plans : List StepPlan) (new : StepPlan) → n < length steps →
    counts_in (drop n steps) ≡ planned_counts (drop n plans) → counts_in (drop (n + 1) steps) ≡ planned_counts (drop (n + 1) (slice_set plans n new))
counts_behind n steps plans new lt same =
    ap (λ m. counts_in (drop m steps)) (add-one n)
    ∙ counts_by n steps plans new lt same
    ∙ ap (λ m. planned_counts (drop m (slice_set plans n new))) (sym (add-one n))
