-- How many steps a job has, and how many DDs a step.
use Rattle.std.proofs.Common.{◌≡◌, ℕ, suc, ◌+◌, ◌≤◌, List, [], ◌∷◌, length, map, Result, Ok, refl, sym, ap, subst, ◌∙◌, arith}
use Rattle.std.specs.Prelude.{All}
use Rattle.std.proofs.lemmas.List.Elements.{All-cons, All-nil}
use Rattle.jcl_cards.specs.declared.job.JobCard.{JobCard}
use Rattle.jcl_dds.specs.declared.dd.DdCard.{DdCard}
use Rattle.jcl_plan.specs.declared.fault.Cause.{Cause}
use Rattle.jcl_plan.specs.declared.plan.DdKind.{DdKind}
use Rattle.jcl_plan.specs.declared.plan.DdPlan.{DdPlan}
use Rattle.jcl_plan.specs.declared.plan.JobPlan.{JobPlan}
use Rattle.jcl_plan.specs.declared.plan.StepPlan.{StepPlan}
use Rattle.jcl_procs.specs.declared.step.FlatStep.{FlatStep}
use Rattle.jcl_refs.specs.Plans.{all_of, dds_with, most_dds, most_steps, plan_of, units_of_dds, units_of_steps, with_dds_left}
use Rattle.plan_laws.specs.Each.{EachStep}
use Rattle.plan_laws.proofs.Making.{StepMade, each_placed, each_planned, firsts, job_made, none_left}

pub as_many : {A : Type 0} (rs : List (Result A Cause)) (found : List A) → all_of rs ≡ Ok found → length found ≡ length rs
as_many [] found is = ap length (none_left found is)
as_many (r ∷ rs) found is =
    let f = firsts r rs found is in
    ap length f.all ∙ ap (λ n. suc n) (as_many rs f.more f.are_more)

dds_few : (dds : List DdCard) (kinds : List DdKind) → length (dds_with dds kinds) ≤ length dds
dds_few [] kinds = omega (arith)
dds_few (dd ∷ dds) [] = omega (arith)
dds_few (dd ∷ dds) (kind ∷ kinds) = omega (arith, dds_few dds kinds)

units_few : (units : List (List ℕ)) (dds : List DdCard) (plans : List DdPlan) → length (units_of_dds units dds plans) ≤ length plans
units_few units [] plans = omega (arith)
units_few units (dd ∷ dds) [] = omega (arith)
units_few units (dd ∷ dds) (plan ∷ plans) = omega (arith, units_few units dds plans)

steps_few : (units : List (List ℕ)) (left : List FlatStep) (plans : List StepPlan) → length (units_of_steps units left plans) ≤ length left
steps_few units [] plans = omega (arith)
steps_few units (s ∷ left) [] = omega (arith)
steps_few units (s ∷ left) (plan ∷ plans) = omega (arith, steps_few units left plans)

pub map_length : {A B : Type 0} (f : A → B) (xs : List A) → length (map f xs) ≡ length xs
map_length f [] = refl
map_length f (x ∷ xs) = ap (λ n. suc n) (map_length f xs)

abbrev pub IsFew : ℕ → StepPlan → Type 0
IsFew k step = length step.dds ≤ most_dds

few_made : (left : List FlatStep) (k : ℕ) (planned : List (List DdKind)) (s : FlatStep) (plan : StepPlan) → Unit {0} →
    StepMade left k planned s plan → IsFew k plan
few_made left k planned s plan sound made =
    omega (arith, made.few, dds_few s.dds made.kinds, ap (λ (p : StepPlan). length p.dds) made.is)

few_placed : (units : List (List ℕ)) (k : ℕ) (s : FlatStep) (plan new : StepPlan) → IsFew k plan → (dds : List DdPlan) →
    all_of (units_of_dds units s.dds plan.dds) ≡ Ok dds → new ≡ record plan { dds = dds } → IsFew k new
few_placed units k s plan new few dds are is =
    omega (arith, few, as_many (units_of_dds units s.dds plan.dds) dds are, units_few units s.dds plan.dds, ap (λ (p : StepPlan). length p.dds) is)

pub each_all : (Q : StepPlan → Type 0) (k : ℕ) (steps : List StepPlan) → EachStep (λ n step. Q step) k steps → All Q steps
each_all Q k [] each = All-nil Q
each_all Q k (step ∷ steps) each = All-cons Q step steps each.0 (each_all Q (k + 1) steps each.1)

pub nothing_asked : {A : Type 0} (xs : List A) → All (λ x. Unit {0}) xs
nothing_asked xs = λ k d lt. tt

pub steps_are_few : (units : List (List ℕ)) (job : JobCard) (steps : List FlatStep) (plan : JobPlan) → plan_of units job steps ≡ Ok plan →
    (length plan.steps ≤ most_steps) × All (λ step. length step.dds ≤ most_dds) plan.steps
steps_are_few units job steps plan is =
    let m = job_made units job steps plan is in
    let left = map with_dds_left steps in
    let few = each_placed units IsFew IsFew (few_placed units) 1 left m.planned m.placed
    (each_planned (λ s. Unit {0}) IsFew left (few_made left) steps m.planned (nothing_asked left) m.are_planned) m.are_placed in
    let placed = as_many (units_of_steps units left m.planned) m.placed m.are_placed in
    let count : length plan.steps ≡ length m.placed = ap (λ (p : JobPlan). length p.steps) m.is in (
      omega (arith, m.few, count, placed, steps_few units left m.planned, map_length with_dds_left steps),
      subst (λ (p : JobPlan). All (λ step. length step.dds ≤ most_dds) p.steps) (sym m.is) (each_all (λ step. length step.dds ≤ most_dds) 1 m.placed few),
    )
