-- The ends of steps that have to be looked at: each code, and one ABEND for all.
use Rattle.std.proofs.Common.{◌≡◌, ◌+◌, ◌≤◌, ◌<◌, ◌⊎◌, inl, inr, ℕ, zero, suc, Bool, true, false, List, [], ◌∷◌, All, drop, refl, subst, sym, arith}
use Rattle.std.specs.List.{AllByRecursion}
use Rattle.std.proofs.lemmas.Bool.{cases_Bool, cases_lt}
use Rattle.std.proofs.lemmas.List.Elements.{All-cons, All-head, All-nil, All-tail}
use Rattle.jcl_plan.specs.declared.outcome.Abend.{Abend}
use Rattle.jcl_plan.specs.declared.outcome.Abend.TheVariants as abend
use Rattle.jcl_plan.specs.declared.outcome.Outcome.{Outcome}
use Rattle.jcl_plan.specs.declared.outcome.Outcome.TheVariants as outcome
use Rattle.jcl_plan.specs.declared.outcome.TheConstants.{GREATEST_CODE}
use Rattle.jcl_plan.specs.declared.plan.StepPlan.{StepPlan}
use Rattle.jcl_plan.specs.declared.plan.Test.{Test}
use Rattle.jcl_meaning.specs.EndActs.{as_ending}
use Rattle.jcl_meaning.specs.History.{IsStepOutcome}
use Rattle.jcl_meaning.specs.RequestActs.{head_or}
use Rattle.path_laws.specs.PathParts.{IsOneClass, MeetAlike, next_outcome}
use Rattle.path_laws.proofs.Seeing.{one_class}

-- of the numbers up to one some has the first, or each the second
up_to : (X Y : ℕ → Type 0) → ((n : ℕ) → X n ⊎ Y n) → (most : ℕ) → ((n : ℕ) × (n < most) × X n) ⊎ ((n : ℕ) → n < most → Y n)
up_to X Y each zero = inr (λ n less. absurd (omega (arith, less)))
up_to X Y each (suc most) = by (each most) (up_to X Y each most)
  where
    last : Y most → ((n : ℕ) → n < most → Y n) → (n : ℕ) → n < suc most → (n < most) ⊎ (most ≤ n) → Y n
    last y below n less (inl under) = below n under
    last y below n less (inr over) = let same : most ≡ n = omega (arith, less, over) in subst Y same y

    rest : Y most → (((n : ℕ) × (n < most) × X n) ⊎ ((n : ℕ) → n < most → Y n)) → ((n : ℕ) × (n < suc most) × X n) ⊎ ((n : ℕ) → n < suc most → Y n)
    rest y (inl (n, less, x)) = inl (n, omega (arith, less), x)
    rest y (inr below) = inr (λ n less. last y below n less (cases_lt n most))

    by : X most ⊎ Y most → (((n : ℕ) × (n < most) × X n) ⊎ ((n : ℕ) → n < most → Y n)) →
        ((n : ℕ) × (n < suc most) × X n) ⊎ ((n : ℕ) → n < suc most → Y n)
    by (inl x) more = inl (most, omega arith, x)
    by (inr y) more = rest y more

-- the end that stands for one
abbrev pub plain_end : Outcome → Outcome
plain_end (outcome.Code code) = outcome.Code code
plain_end (outcome.Abend a) = outcome.Abend abend.S222
plain_end outcome.Bypassed = outcome.Code 0
plain_end outcome.Flushed = outcome.Code 0

-- of these ends some has the first, or each the second
pub each_end : (X Y : Outcome → Type 0) → ((o : Outcome) → X o ⊎ Y o) →
    ((o : Outcome) × IsStepOutcome o × X o) ⊎ ((o : Outcome) → IsStepOutcome o → Y (plain_end o))
each_end X Y each = by_codes (up_to (λ n. X (outcome.Code n)) (λ n. Y (outcome.Code n)) (λ n. each (outcome.Code n)) (suc GREATEST_CODE))
  where
    all : ((n : ℕ) → n < suc GREATEST_CODE → Y (outcome.Code n)) → Y (outcome.Abend abend.S222) → (o : Outcome) → IsStepOutcome o → Y (plain_end o)
    all codes y (outcome.Code code) within = codes code (omega (arith, within))
    all codes y (outcome.Abend a) within = y
    all codes y outcome.Bypassed within = codes 0 (omega arith)
    all codes y outcome.Flushed within = codes 0 (omega arith)

    by_abend : ((n : ℕ) → n < suc GREATEST_CODE → Y (outcome.Code n)) → X (outcome.Abend abend.S222) ⊎ Y (outcome.Abend abend.S222) →
        ((o : Outcome) × IsStepOutcome o × X o) ⊎ ((o : Outcome) → IsStepOutcome o → Y (plain_end o))
    by_abend codes (inl x) = inl (outcome.Abend abend.S222, tt, x)
    by_abend codes (inr y) = inr (all codes y)

    by_codes : (((n : ℕ) × (n < suc GREATEST_CODE) × X (outcome.Code n)) ⊎ ((n : ℕ) → n < suc GREATEST_CODE → Y (outcome.Code n))) →
        ((o : Outcome) × IsStepOutcome o × X o) ⊎ ((o : Outcome) → IsStepOutcome o → Y (plain_end o))
    by_codes (inl (n, less, x)) = inl (outcome.Code n, omega (arith, less), x)
    by_codes (inr codes) = by_abend codes (each (outcome.Abend abend.S222))

-- the ends of the first steps, each by the one that stands for it
abbrev pub plain_ends : ℕ → List Outcome → List Outcome
plain_ends zero os = []
plain_ends (suc n) os = plain_end (next_outcome os) ∷ plain_ends n (drop 1 os)

-- the next end is one that a step may have
pub next_within : (os : List Outcome) → All IsStepOutcome os → IsStepOutcome (next_outcome os)
next_within [] h = omega arith
next_within (o ∷ os) h = ends o (All-head IsStepOutcome o os h)
  where
    ends : (o : Outcome) → IsStepOutcome o → IsStepOutcome (as_ending o)
    ends (outcome.Code code) h = h
    ends (outcome.Abend a) h = tt
    ends outcome.Bypassed h = omega arith
    ends outcome.Flushed h = omega arith

pub rest_within : (os : List Outcome) → All IsStepOutcome os → All IsStepOutcome (drop 1 os)
rest_within [] h = h
rest_within (o ∷ os) h = All-tail IsStepOutcome o os h

-- a list with this end first fails a test; all pass it
abbrev Fails : (List Outcome → Bool) → Outcome → Type 0
Fails passes o = (os : List Outcome) × All IsStepOutcome os × (passes (o ∷ os) ≡ false)

abbrev Pass : ℕ → (List Outcome → Bool) → Outcome → Type 0
Pass n passes o = (os : List Outcome) → All IsStepOutcome os → passes (o ∷ plain_ends n os) ≡ true

-- Lists of ends of so many steps: one fails a test, or all pass it.
pub each_list : (n : ℕ) (passes : List Outcome → Bool) →
    ((os : List Outcome) × All IsStepOutcome os × (passes os ≡ false)) ⊎ ((os : List Outcome) → All IsStepOutcome os → passes (plain_ends n os) ≡ true)
each_list zero passes = by (cases_Bool (passes []))
  where
    by : (passes [] ≡ true) ⊎ (passes [] ≡ false) →
        ((os : List Outcome) × All IsStepOutcome os × (passes os ≡ false)) ⊎ ((os : List Outcome) → All IsStepOutcome os → passes [] ≡ true)
    by (inl is) = inr (λ os within. is)
    by (inr isnt) = inl ([], All-nil IsStepOutcome, isnt)
each_list (suc n) passes = by (each_end (Fails passes) (Pass n passes) (λ o. each_list n (λ os. passes (o ∷ os))))
  where
    by : (((o : Outcome) × IsStepOutcome o × Fails passes o) ⊎ ((o : Outcome) → IsStepOutcome o → Pass n passes (plain_end o))) →
        ((os : List Outcome) × All IsStepOutcome os × (passes os ≡ false)) ⊎
        ((os : List Outcome) → All IsStepOutcome os → passes (plain_ends (suc n) os) ≡ true)
    by (inl (o, its, (os, within, fails))) = inl (o ∷ os, All-cons IsStepOutcome o os its within, fails)
    by (inr all) = inr (λ os within. all (next_outcome os) (next_within os within) (drop 1 os) (rest_within os within))

-- No test is met by an ABEND.
abends_meet_alike : (step : ℕ) (tests : List Test) (a b : Abend) → MeetAlike step (outcome.Abend a) (outcome.Abend b) tests
abends_meet_alike step [] a b = tt
abends_meet_alike step (test ∷ tests) a b = (refl, abends_meet_alike step tests a b)

steps_meet_alike : (step : ℕ) (later : List StepPlan) (a b : Abend) →
    AllByRecursion (λ s. MeetAlike step (outcome.Abend a) (outcome.Abend b) s.tests.items) later
steps_meet_alike step [] a b = tt
steps_meet_alike step (s ∷ later) a b = (abends_meet_alike step s.tests.items a b, steps_meet_alike step later a b)

-- So an end and the one that stands for it are of one class.
stands_for : (step : ℕ) (job_tests : List Test) (later : List StepPlan) (o : Outcome) →
    IsOneClass step job_tests later (as_ending (plain_end (as_ending o))) (as_ending o)
stands_for step job_tests later (outcome.Code code) = one_class step job_tests later (outcome.Code code) (outcome.Code code) refl
stands_for step job_tests later (outcome.Abend a) = record {
  abend = refl;
  job = abends_meet_alike step job_tests abend.S222 a;
  steps = steps_meet_alike step later abend.S222 a;
}
stands_for step job_tests later outcome.Bypassed = one_class step job_tests later (outcome.Code 0) (outcome.Code 0) refl
stands_for step job_tests later outcome.Flushed = one_class step job_tests later (outcome.Code 0) (outcome.Code 0) refl

none_left : (k : ℕ) → drop {A = Outcome} k [] ≡ []
none_left zero = refl
none_left (suc k) = refl

next_of : (m k : ℕ) (os : List Outcome) → k < m → next_outcome (drop k (plain_ends m os)) ≡ as_ending (plain_end (next_outcome (drop k os)))
next_of zero k os h = absurd (omega (arith, h))
next_of (suc m) zero os h = refl
next_of (suc m) (suc k) [] h =
    subst (λ (os : List Outcome). next_outcome (drop k (plain_ends m [])) ≡ as_ending (plain_end (next_outcome os))) (none_left k)
    (next_of m k [] (omega (arith, h)))
next_of (suc m) (suc k) (o ∷ os) h = next_of m k os (omega (arith, h))

pub plainly_alike : (steps m k : ℕ) (job_tests : List Test) (later : List StepPlan) (os : List Outcome) → k < m →
    IsOneClass steps job_tests later (next_outcome (drop k (plain_ends m os))) (next_outcome (drop k os))
plainly_alike steps m k job_tests later os h =
    subst (λ (o : Outcome). IsOneClass steps job_tests later o (next_outcome (drop k os))) (sym (next_of m k os h))
    (stands_for steps job_tests later (head_or (outcome.Code 0) (drop k os)))
