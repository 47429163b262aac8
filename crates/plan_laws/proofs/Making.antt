-- How a plan is made.
use Rattle.std.proofs.Common.{◌≡◌, ℕ, ◌+◌, ◌≤◌, Bool, true, false, nat_lt, List, [], ◌∷◌, ◌++◌, length, map, Result, Ok, Err, refl, sym, ap, subst, ◌∙◌, append_assoc}
use Rattle.std.proofs.lemmas.Bool.{ltb-false}
use Rattle.std.specs.Prelude.{All, count_by}
use Rattle.std.proofs.lemmas.List.Elements.{All-head, All-tail}
use Rattle.jcl_meaning.specs.Names.{names_of}
use Rattle.jcl_cards.specs.declared.job.JobCard.{JobCard}
use Rattle.jcl_cards.specs.Keywords.{is_given}
use Rattle.jcl_plan.specs.declared.fault.Cause.{Cause}
use Rattle.jcl_plan.specs.declared.fault.Cause.TheVariants.{P}
use Rattle.jcl_plan.specs.declared.fault.StatementFault.TheVariants.{TooManyDdNames, TooManyDds, TooManyNames, TooManySteps}
use Rattle.jcl_plan.specs.declared.plan.DdKind.{DdKind}
use Rattle.jcl_plan.specs.declared.plan.DdPlan.{DdPlan}
use Rattle.jcl_plan.specs.declared.plan.JobPlan.{JobPlan}
use Rattle.jcl_plan.specs.declared.plan.StepPlan.{StepPlan}
use Rattle.jcl_plan.specs.declared.plan.Test.{Test}
use Rattle.jcl_procs.specs.declared.step.FlatStep.{FlatStep}
use Rattle.jcl_procs.specs.Expansions.{and_then}
use Rattle.jcl_refs.specs.Plans.{all_of, dds_with, job_with, kinds_from, kinds_in, most_dd_names, most_dds, most_names, most_steps, onto, plan_by, plan_of, refused_if, step_of, step_with, steps_from, tests_of, units_of_dds, units_of_step, units_of_steps, with_dds_left}
use Rattle.deck_laws.proofs.Given.{and_ok, same_ok}
use Rattle.plan_laws.specs.Each.{EachStep}

pub not_refused : {A : Type 0} (b : Bool) (fault : Cause) (next : Result A Cause) (a : A) → refused_if b fault next ≡ Ok a → (b ≡ false) × (next ≡ Ok a)
not_refused true fault next a is = absurd cc
not_refused false fault next a is = (refl, is)

-- all of a list
pub record Firsts {A : Type 0} (r : Result A Cause) (rs : List (Result A Cause)) (found : List A) : Type 0 where
  pub first : A
  pub more : List A
  pub is_first : r ≡ Ok first
  pub are_more : all_of rs ≡ Ok more
  pub all : found ≡ first ∷ more

onto_ok : {A : Type 0} (a : A) (r : Result (List A) Cause) (found : List A) → onto a r ≡ Ok found → (more : List A) × (r ≡ Ok more) × (found ≡ a ∷ more)
onto_ok a (Err fault) found is = absurd cc
onto_ok a (Ok more) found is = (more, refl, sym (same_ok (a ∷ more) found is))

pub firsts : {A : Type 0} (r : Result A Cause) (rs : List (Result A Cause)) (found : List A) → all_of (r ∷ rs) ≡ Ok found → Firsts r rs found
firsts (Err fault) rs found is = absurd cc
firsts (Ok a) rs found is =
    let o = onto_ok a (all_of rs) found is in
    record { first = a; more = o.0; is_first = refl; are_more = o.1; all = o.2 }

pub none_left : {A : Type 0} (found : List A) → all_of {A = A} [] ≡ Ok found → found ≡ []
none_left found is = sym (same_ok [] found is)

-- a job
pub record JobMade (units : List (List ℕ)) (job : JobCard) (steps : List FlatStep) (plan : JobPlan) : Type 0 where
  pub few : length steps ≤ most_steps
  pub planned : List StepPlan
  pub are_planned : steps_from (map with_dds_left steps) 1 [] steps (map with_dds_left steps) ≡ Ok planned
  pub placed : List StepPlan
  pub are_placed : all_of (units_of_steps units (map with_dds_left steps) planned) ≡ Ok placed
  pub is : plan ≡ job_with job placed

pub job_made : (units : List (List ℕ)) (job : JobCard) (steps : List FlatStep) (plan : JobPlan) → plan_of units job steps ≡ Ok plan →
    JobMade units job steps plan
job_made units job steps plan is =
    let left = map with_dds_left steps in
    let few = not_refused (nat_lt most_steps (length steps)) (P TooManySteps) (plan_by units job steps left) plan is in
    let end : List StepPlan → Result JobPlan Cause = λ plans. refused_if (nat_lt most_names (length (names_of (job_with job plans)))) (P TooManyNames)
    (and_then (all_of (units_of_steps units left plans)) (λ placed. Ok (job_with job placed))) in
    let made = and_ok (steps_from left 1 [] steps left) end plan few.1 in
    let named = not_refused (nat_lt most_names (length (names_of (job_with job made.0)))) (P TooManyNames)
    (and_then (all_of (units_of_steps units left made.0)) (λ placed. Ok (job_with job placed))) plan made.2 in
    let put = and_ok (all_of (units_of_steps units left made.0)) (λ placed. Ok (job_with job placed)) plan named.1 in
    record {
      few = ltb-false most_steps (length steps) few.0;
      planned = made.0;
      are_planned = made.1;
      placed = put.0;
      are_placed = put.1;
      is = sym (same_ok (job_with job put.0) plan put.2);
    }

-- a step
pub record StepMade (steps : List FlatStep) (k : ℕ) (planned : List (List DdKind)) (s : FlatStep) (plan : StepPlan) : Type 0 where
  pub tests : List Test
  pub are_tests : tests_of s.call k steps s.condition.tests.items ≡ Ok tests
  pub few : length s.dds ≤ most_dds
  pub kinds : List DdKind
  pub are_kinds : kinds_from steps s.call k planned [] s.dds ≡ Ok kinds
  pub is : plan ≡ step_with s tests (dds_with s.dds kinds)

pub step_made : (steps : List FlatStep) (k : ℕ) (planned : List (List DdKind)) (stands s : FlatStep) (plan : StepPlan) →
    step_of steps k planned stands s ≡ Ok plan → StepMade steps k planned s plan
step_made steps k planned stands s plan is =
    let kinds = kinds_from steps s.call k planned [] s.dds in
    let end : List Test → List DdKind → Result StepPlan Cause = λ tests kinds. Ok (step_with s tests (dds_with s.dds kinds)) in
    let few_dds : List Test → Result StepPlan Cause = λ tests. refused_if (nat_lt most_dds (length s.dds)) (P TooManyDds) (and_then kinds (end tests)) in
    let many_names = nat_lt most_dd_names (count_by (λ dd. is_given dd.dd_name) stands.dds) in
    let tested = and_ok (tests_of s.call k steps s.condition.tests.items) (λ tests. refused_if many_names (P TooManyDdNames) (few_dds tests)) plan is in
    let named = not_refused many_names (P TooManyDdNames) (few_dds tested.0) plan tested.2 in
    let few = not_refused (nat_lt most_dds (length s.dds)) (P TooManyDds) (and_then kinds (end tested.0)) plan named.1 in
    let made = and_ok kinds (end tested.0) plan few.1 in
    record {
      tests = tested.0;
      are_tests = tested.1;
      few = ltb-false most_dds (length s.dds) few.0;
      kinds = made.0;
      are_kinds = made.1;
      is = sym (same_ok (step_with s tested.0 (dds_with s.dds made.0)) plan made.2);
    }

-- steps, one after another: what is true of each
pub append_none : {A : Type 0} (xs : List A) → xs ++ [] ≡ xs
append_none [] = refl
append_none (x ∷ xs) = ap (λ ys. x ∷ ys) (append_none xs)

record Planned (Holds : ℕ → StepPlan → Type 0) (k : ℕ) (done steps : List StepPlan) : Type 0 where
  more : List StepPlan
  all : steps ≡ done ++ more
  each : EachStep Holds k more

module _ (Sound : FlatStep → Type 0) (Holds : ℕ → StepPlan → Type 0) (left : List FlatStep)
    (holds : (k : ℕ) (planned : List (List DdKind)) (s : FlatStep) (plan : StepPlan) → Sound s → StepMade left k planned s plan → Holds k plan) where
  planned_each : (k : ℕ) (done : List StepPlan) (stand here : List FlatStep) (steps : List StepPlan) → All Sound here →
      steps_from left k done stand here ≡ Ok steps → Planned Holds k done steps
  planned_each k done [] here steps sound is = record { more = []; all = sym (same_ok done steps is) ∙ sym (append_none done); each = tt }
  planned_each k done (stands ∷ stand) [] steps sound is = record { more = []; all = sym (same_ok done steps is) ∙ sym (append_none done); each = tt }
  planned_each k done (stands ∷ stand) (s ∷ here) steps sound is =
      let made = and_ok (step_of left k (map kinds_in done) stands s) (λ plan. steps_from left (k + 1) (done ++ plan ∷ []) stand here) steps is in
      let rest = planned_each (k + 1) (done ++ made.0 ∷ []) stand here steps (All-tail Sound s here sound) made.2 in
      record {
        more = made.0 ∷ rest.more;
        all = rest.all ∙ append_assoc done (made.0 ∷ []) rest.more;
        each = (holds k (map kinds_in done) s made.0 (All-head Sound s here sound) (step_made left k (map kinds_in done) stands s made.0 made.1), rest.each);
      }

  pub each_planned : (stand : List FlatStep) (steps : List StepPlan) → All Sound left → steps_from left 1 [] stand left ≡ Ok steps → EachStep Holds 1 steps
  each_planned stand steps sound is =
      let p = planned_each 1 [] stand left steps sound is in
      subst (EachStep Holds 1) (sym p.all) p.each

-- the units of steps: what is true of each
abbrev pub Places : List (List ℕ) → (ℕ → StepPlan → Type 0) → (ℕ → StepPlan → Type 0) → Type 0
Places units Before After = (k : ℕ) (s : FlatStep) (plan new : StepPlan) → Before k plan → (dds : List DdPlan) →
    all_of (units_of_dds units s.dds plan.dds) ≡ Ok dds → new ≡ record plan { dds = dds } → After k new

module _ (units : List (List ℕ)) (Before After : ℕ → StepPlan → Type 0) (holds : Places units Before After) where
  pub each_placed : (k : ℕ) (left : List FlatStep) (steps placed : List StepPlan) → EachStep Before k steps →
      all_of (units_of_steps units left steps) ≡ Ok placed → EachStep After k placed
  each_placed k [] steps placed each is = subst (EachStep After k) (sym (none_left placed is)) tt
  each_placed k (s ∷ left) [] placed each is = subst (EachStep After k) (sym (none_left placed is)) tt
  each_placed k (s ∷ left) (plan ∷ steps) placed each is =
      let f = firsts (units_of_step units s plan) (units_of_steps units left steps) placed is in
      let made = and_ok (all_of (units_of_dds units s.dds plan.dds)) (λ dds. Ok (record plan { dds = dds })) f.first f.is_first in
      let new : f.first ≡ record plan { dds = made.0 } = sym (same_ok (record plan { dds = made.0 }) f.first made.2) in
      subst (EachStep After k) (sym f.all) (holds k s plan f.first each.0 made.0 made.1 new, each_placed (k + 1) left steps f.more each.1 f.are_more)
