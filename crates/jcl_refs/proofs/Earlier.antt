-- An earlier step is one of the steps.
use Rattle.std.proofs.Common.{◌≡◌, ℕ, ◌+◌, ◌<◌, ◌≤◌, suc, Bool, true, false, List, [], ◌∷◌, length, Option, Some, None, if◌then◌else◌, nat_lt, refl, arith}
use Rattle.jcl_procs.specs.declared.step.FlatStep.{FlatStep}
use Rattle.value_core.specs.declared.reference.StepReference.{StepReference}
use Rattle.value_core.specs.declared.reference.StepReference.TheVariants.{Step, ProcedureStep}
use Rattle.jcl_refs.specs.Targets.{earlier_step, is_brought_by, is_own_step, is_step_of_call, latest, latest_from, or_else}

by_tests : (before holds : Bool) (n len m : ℕ) (later : Option ℕ) → ((i : ℕ) → later ≡ Some i → i < n + 1 + len) →
    (if before then or_else later (if holds then Some n else None) else None) ≡ Some m → m < n + suc len
by_tests false holds n len m later h is = absurd (let e : (let none : Option ℕ = None in none) ≡ Some m = is in cc)
by_tests true holds n len m (Some i) h is = let e : i ≡ m = cc in omega (arith, h i refl)
by_tests true true n len m None h is = let e : n ≡ m = cc in omega (arith)
by_tests true false n len m None h is = cc

latest_from_within : (holds : FlatStep → Bool) (n k : ℕ) (steps : List FlatStep) (m : ℕ) → latest_from holds n k steps ≡ Some m → m < n + length steps
latest_from_within holds n k [] m is = cc
latest_from_within holds n k (s ∷ steps) m is =
    by_tests (nat_lt n k) (holds s) n (length steps) m (latest_from holds (n + 1) k steps) (λ i e. latest_from_within holds (n + 1) k steps i e) is

latest_within : (holds : FlatStep → Bool) (k : ℕ) (steps : List FlatStep) (m : ℕ) → latest holds k steps ≡ Some m → m ≤ length steps
latest_within holds k steps m is = omega (arith, latest_from_within holds 1 k steps m is)

either_within : (a b : Option ℕ) (len m : ℕ) → ((i : ℕ) → a ≡ Some i → i ≤ len) → ((i : ℕ) → b ≡ Some i → i ≤ len) → or_else a b ≡ Some m → m ≤ len
either_within None b len m h g is = g m is
either_within (Some i) b len m h g is = h m is

pub step_within : (call : Option ℕ) (reference : StepReference) (k : ℕ) (steps : List FlatStep) (m : ℕ) → earlier_step call reference k steps ≡ Some m →
    m ≤ length steps
step_within None (Step name) k steps m is = latest_within (is_own_step name) k steps m is
step_within (Some call) (Step name) k steps m is =
    either_within (latest (is_step_of_call call name) k steps) (latest (is_own_step name) k steps) (length steps) m
    (latest_within (is_step_of_call call name) k steps) (latest_within (is_own_step name) k steps) is
step_within call (ProcedureStep name procedure_step) k steps m is = latest_within (is_brought_by name procedure_step) k steps m is
