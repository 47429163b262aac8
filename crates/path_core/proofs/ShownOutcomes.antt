-- What a path shows of outcomes: as many, each one that its step may have, and of one class with it.
use Rattle.std.proofs.Common.{◌≡◌, ℕ, zero, suc, List, [], ◌∷◌, Some, drop, length, refl, sym, ap, ◌∙◌, subst, arith}
use Rattle.std.specs.Prelude.{All, slice_get}
use Rattle.std.specs.List.{AllByRecursion}
use Rattle.std.proofs.lemmas.List.Elements.{All-head, All-tail}
use Rattle.jcl_plan.specs.declared.outcome.Fate.{Fate}
use Rattle.jcl_plan.specs.declared.outcome.Fate.TheVariants as fate
use Rattle.jcl_plan.specs.declared.outcome.Outcome.{Outcome}
use Rattle.jcl_plan.specs.declared.outcome.Outcome.TheVariants as outcome
use Rattle.jcl_plan.specs.declared.plan.StepPlan.{StepPlan}
use Rattle.jcl_plan.specs.declared.plan.Test.{Test}
use Rattle.jcl_meaning.specs.EndActs.{as_ending}
use Rattle.jcl_meaning.specs.History.{IsStepOutcome, is_abend, met_by}
use Rattle.jcl_meaning.specs.RequestActs.{head_or}
use Rattle.path_meaning.specs.Certificates.{AreOfFates, IsOfFate}
use Rattle.path_meaning.specs.Paths.{path_shown, shown_code, shown_of}
use Rattle.path_laws.specs.PathParts.{IsOneClass, MeetAlike, next_outcome}

pub shown_size : (fates : List Fate) (os : List Outcome) → length (path_shown fates os) ≡ length fates
shown_size [] os = refl
shown_size (f ∷ fates) os = ap suc (shown_size fates (drop 1 os))

-- each is one that its step may have
fits_one : (f : Fate) (o : Outcome) → IsStepOutcome o → IsOfFate f (shown_of f o)
fits_one fate.Run (outcome.Code code) h = h
fits_one fate.Run (outcome.Abend a) h = tt
fits_one fate.Run outcome.Bypassed h = omega arith
fits_one fate.Run outcome.Flushed h = omega arith
fits_one fate.Bypassed o h = tt
fits_one fate.Flushed o h = tt

head_within : (os : List Outcome) → All IsStepOutcome os → IsStepOutcome (head_or (outcome.Code 0) os)
head_within [] h = omega arith
head_within (o ∷ os) h = All-head IsStepOutcome o os h

rest_within : (os : List Outcome) → All IsStepOutcome os → All IsStepOutcome (drop 1 os)
rest_within [] h = h
rest_within (o ∷ os) h = All-tail IsStepOutcome o os h

pub all_fit : (fates : List Fate) (os : List Outcome) → All IsStepOutcome os → AreOfFates fates (path_shown fates os)
all_fit [] os h = tt
all_fit (f ∷ fates) os h = (fits_one f (head_or (outcome.Code 0) os) (head_within os h), all_fit fates (drop 1 os) (rest_within os h))

-- what is shown at a place
drop_none : (n : ℕ) → drop {A = Outcome} n [] ≡ []
drop_none zero = refl
drop_none (suc n) = refl

drop_more : (n : ℕ) (os : List Outcome) → drop n (drop 1 os) ≡ drop (suc n) os
drop_more n [] = drop_none n
drop_more n (o ∷ os) = refl

shown_at : (n : ℕ) (fates : List Fate) (os : List Outcome) (f : Fate) → slice_get fates n ≡ Some f →
    head_or (outcome.Code 0) (drop n (path_shown fates os)) ≡ shown_of f (head_or (outcome.Code 0) (drop n os))
shown_at n [] os f e = absurd cc
shown_at zero (g ∷ fates) os f e = let same : g ≡ f = cc in ap (λ x. shown_of x (head_or (outcome.Code 0) os)) same
shown_at (suc n) (g ∷ fates) os f e = shown_at n fates (drop 1 os) f e ∙ ap (λ xs. shown_of f (head_or (outcome.Code 0) xs)) (drop_more n os)

-- what no test tells apart is of one class
module _ (step : ℕ) (job_tests : List Test) (later : List StepPlan) (o p : Outcome) (abend : is_abend o ≡ is_abend p)
    (met : (test : Test) → met_by test step o ≡ met_by test step p) where
  meet_alike : (tests : List Test) → MeetAlike step o p tests
  meet_alike [] = tt
  meet_alike (test ∷ tests) = (met test, meet_alike tests)

  steps_alike : (steps : List StepPlan) → AllByRecursion (λ s. MeetAlike step o p s.tests.items) steps
  steps_alike [] = tt
  steps_alike (s ∷ steps) = (meet_alike s.tests.items, steps_alike steps)

  one_class : IsOneClass step job_tests later o p
  one_class = record { abend = abend; job = meet_alike job_tests; steps = steps_alike later }

pub same_class : (step : ℕ) (job_tests : List Test) (later : List StepPlan) (o : Outcome) → IsOneClass step job_tests later o o
same_class step job_tests later o = one_class step job_tests later o o refl (λ test. refl)

as_shown : (step : ℕ) (job_tests : List Test) (later : List StepPlan) (o : Outcome) →
    IsOneClass step job_tests later (as_ending o) (as_ending (shown_code o))
as_shown step job_tests later (outcome.Code code) = same_class step job_tests later (outcome.Code code)
as_shown step job_tests later (outcome.Abend a) = one_class step job_tests later (outcome.Abend a) _ refl (λ test. refl)
as_shown step job_tests later outcome.Bypassed = same_class step job_tests later (outcome.Code 0)
as_shown step job_tests later outcome.Flushed = same_class step job_tests later (outcome.Code 0)

-- a step that runs ends on the path as it did, as far as tests tell
pub next_shown : (n step : ℕ) (job_tests : List Test) (later : List StepPlan) (fates : List Fate) (os : List Outcome) → slice_get fates n ≡ Some fate.Run →
    IsOneClass step job_tests later (next_outcome (drop n os)) (next_outcome (drop n (path_shown fates os)))
next_shown n step job_tests later fates os e =
    subst (λ (x : Outcome). IsOneClass step job_tests later (next_outcome (drop n os)) (as_ending x)) (sym (shown_at n fates os fate.Run e))
    (as_shown step job_tests later (head_or (outcome.Code 0) (drop n os)))
