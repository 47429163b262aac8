-- The tests of steps look back.
use Rattle.std.proofs.Common.{◌≡◌, ℕ, ◌+◌, ◌<◌, ◌≤◌, Bool, true, false, nat_lt, List, [], ◌∷◌, map, Option, Some, None, Result, Ok, Err, if◌then◌else◌, refl, sym, subst, arith}
use Rattle.std.specs.Prelude.{All}
use Rattle.std.proofs.lemmas.Bool.{ltb-true}
use Rattle.std.proofs.lemmas.List.Elements.{All-cons, All-map, All-nil}
use Rattle.jcl_cards.specs.declared.job.JobCard.{JobCard}
use Rattle.jcl_plan.specs.declared.fault.Cause.{Cause}
use Rattle.jcl_plan.specs.declared.fault.Cause.TheVariants.{P}
use Rattle.jcl_plan.specs.declared.fault.StatementFault.TheVariants.{TestOfNoEarlierStep}
use Rattle.jcl_plan.specs.declared.plan.DdKind.{DdKind}
use Rattle.jcl_plan.specs.declared.plan.DdPlan.{DdPlan}
use Rattle.jcl_plan.specs.declared.plan.JobPlan.{JobPlan}
use Rattle.jcl_plan.specs.declared.plan.StepPlan.{StepPlan}
use Rattle.jcl_plan.specs.declared.plan.Test.{Test}
use Rattle.list_values.specs.declared.condition.CodedTest.{CodedTest}
use Rattle.value_core.specs.declared.reference.StepReference.{StepReference}
use Rattle.value_core.specs.declared.reference.StepReference.TheVariants.{Step, ProcedureStep}
use Rattle.cb_meaning.specs.Writable.{NamesEarlier}
use Rattle.jcl_procs.specs.declared.step.FlatStep.{FlatStep}
use Rattle.jcl_refs.specs.Plans.{all_of, job_test, plan_of, test_of, test_with, units_of_dds, with_dds_left}
use Rattle.jcl_refs.specs.Targets.{earlier_step, is_brought_by, is_own_step, is_step_of_call, latest, latest_from, or_else}
use Rattle.plan_laws.specs.Each.{EachStep}
use Rattle.plan_laws.proofs.Few.{nothing_asked}
use Rattle.deck_laws.proofs.Given.{same_ok}
use Rattle.plan_laws.proofs.Making.{StepMade, each_placed, each_planned, firsts, job_made, none_left}

-- an earlier step stands before
same_some : (a b : ℕ) → (let o : Option ℕ = Some a in o) ≡ Some b → a ≡ b
same_some a b is = cc

between : (before holds : Bool) (n k m : ℕ) (later : Option ℕ) → (before ≡ true → n < k) → ((i : ℕ) → later ≡ Some i → (n + 1 ≤ i) × (i < k)) →
    (if before then or_else later (if holds then Some n else None) else None) ≡ Some m → (n ≤ m) × (m < k)
between false holds n k m later low h is = absurd (let e : (let none : Option ℕ = None in none) ≡ Some m = is in cc)
between true holds n k m (Some i) low h is =
    let e : i ≡ m = same_some i m is in
    let b = h i refl in
    (omega (arith, b.0, e), omega (arith, b.1, e))
between true true n k m None low h is =
    let e : n ≡ m = same_some n m is in
    let l = low refl in
    (omega (arith, e), omega (arith, e, l))
between true false n k m None low h is = absurd (let e : (let none : Option ℕ = None in none) ≡ Some m = is in cc)

latest_from_between : (holds : FlatStep → Bool) (n k : ℕ) (steps : List FlatStep) (m : ℕ) → latest_from holds n k steps ≡ Some m → (n ≤ m) × (m < k)
latest_from_between holds n k [] m is = absurd (let e : (let none : Option ℕ = None in none) ≡ Some m = is in cc)
latest_from_between holds n k (s ∷ steps) m is =
    between (nat_lt n k) (holds s) n k m (latest_from holds (n + 1) k steps) (λ e. ltb-true n k e) (λ i e. latest_from_between holds (n + 1) k steps i e) is

latest_between : (holds : FlatStep → Bool) (k : ℕ) (steps : List FlatStep) (m : ℕ) → latest holds k steps ≡ Some m → (1 ≤ m) × (m < k)
latest_between holds k steps m is = latest_from_between holds 1 k steps m is

either_between : (a b : Option ℕ) (k m : ℕ) → ((i : ℕ) → a ≡ Some i → (1 ≤ i) × (i < k)) → ((i : ℕ) → b ≡ Some i → (1 ≤ i) × (i < k)) →
    or_else a b ≡ Some m → (1 ≤ m) × (m < k)
either_between None b k m h g is = g m is
either_between (Some i) b k m h g is = h m is

pub step_between : (call : Option ℕ) (reference : StepReference) (k : ℕ) (steps : List FlatStep) (m : ℕ) → earlier_step call reference k steps ≡ Some m →
    (1 ≤ m) × (m < k)
step_between None (Step name) k steps m is = latest_between (is_own_step name) k steps m is
step_between (Some call) (Step name) k steps m is =
    either_between (latest (is_step_of_call call name) k steps) (latest (is_own_step name) k steps) k m
    (latest_between (is_step_of_call call name) k steps) (latest_between (is_own_step name) k steps) is
step_between call (ProcedureStep name procedure_step) k steps m is = latest_between (is_brought_by name procedure_step) k steps m is

-- a test of a step
abbrev test_by_step : CodedTest → Option ℕ → Result Test Cause
test_by_step t None = Err (P TestOfNoEarlierStep)
test_by_step t (Some n) = Ok (test_with t (Some n))

abbrev test_by : Option ℕ → ℕ → List FlatStep → CodedTest → Option StepReference → Result Test Cause
test_by call k steps t None = Ok (test_with t None)
test_by call k steps t (Some reference) = test_by_step t (earlier_step call reference k steps)

by_step : (k : ℕ) (t : CodedTest) (found : Option ℕ) (x : Test) → ((n : ℕ) → found ≡ Some n → (1 ≤ n) × (n < k)) → test_by_step t found ≡ Ok x →
    NamesEarlier k x.step
by_step k t None x h is = absurd cc
by_step k t (Some n) x h is = subst (λ (y : Test). NamesEarlier k y.step) (same_ok (test_with t (Some n)) x is) (h n refl)

by_reference : (call : Option ℕ) (k : ℕ) (steps : List FlatStep) (t : CodedTest) (reference : Option StepReference) (x : Test) →
    test_by call k steps t reference ≡ Ok x → NamesEarlier k x.step
by_reference call k steps t None x is = subst (λ (y : Test). NamesEarlier k y.step) (same_ok (test_with t None) x is) tt
by_reference call k steps t (Some reference) x is =
    by_step k t (earlier_step call reference k steps) x (step_between call reference k steps) is

pub all_mapped : {A B : Type 0} (f : A → Result B Cause) (Q : B → Type 0) → ((a : A) (b : B) → f a ≡ Ok b → Q b) → (xs : List A) (found : List B) →
    all_of (map f xs) ≡ Ok found → All Q found
all_mapped f Q each [] found is = subst (All Q) (sym (none_left found is)) (All-nil Q)
all_mapped f Q each (x ∷ xs) found is =
    let g = firsts (f x) (map f xs) found is in
    subst (All Q) (sym g.all) (All-cons Q g.first g.more (each x g.first g.is_first) (all_mapped f Q each xs g.more g.are_more))

abbrev pub LooksBack : ℕ → StepPlan → Type 0
LooksBack k step = All (λ t. NamesEarlier k t.step) step.tests.items

tests_made : (left : List FlatStep) (k : ℕ) (planned : List (List DdKind)) (s : FlatStep) (plan : StepPlan) → Unit {0} → StepMade left k planned s plan →
    LooksBack k plan
tests_made left k planned s plan sound made =
    subst (LooksBack k) (sym made.is)
    (all_mapped (test_of s.call k left) (λ t. NamesEarlier k t.step) (λ t x e. by_reference s.call k left t t.step x e)
    s.condition.tests.items made.tests made.are_tests)

tests_placed : (units : List (List ℕ)) (k : ℕ) (s : FlatStep) (plan new : StepPlan) → LooksBack k plan → (dds : List DdPlan) →
    all_of (units_of_dds units s.dds plan.dds) ≡ Ok dds → new ≡ record plan { dds = dds } → LooksBack k new
tests_placed units k s plan new back dds are is = subst (LooksBack k) (sym is) back

pub tests_look_back : (units : List (List ℕ)) (job : JobCard) (steps : List FlatStep) (plan : JobPlan) → plan_of units job steps ≡ Ok plan →
    All (λ t. t.step ≡ None) plan.tests.items × EachStep LooksBack 1 plan.steps
tests_look_back units job steps plan is =
    let m = job_made units job steps plan is in
    let left = map with_dds_left steps in
    let none : All (λ (t : Test). t.step ≡ None) (map job_test job.tests.items) =
    All-map (λ (t : Test). t.step ≡ None) job_test job.tests.items (λ k d lt. refl) in
    let back = each_placed units LooksBack LooksBack (tests_placed units) 1 left m.planned m.placed
    (each_planned (λ s. Unit {0}) LooksBack left (tests_made left) steps m.planned (nothing_asked left) m.are_planned) m.are_placed in
    subst (λ (p : JobPlan). All (λ t. t.step ≡ None) p.tests.items × EachStep LooksBack 1 p.steps) (sym m.is) (none, back)
