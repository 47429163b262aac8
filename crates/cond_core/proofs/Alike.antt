-- Codes that agree on tests meet the same of them.
use Rattle.std.proofs.Common.{◌≡◌, ℕ, suc, Bool, ◌&&◌, ◌||◌, List, [], ◌∷◌, arith, refl, ap}
use Rattle.std.specs.List.{list_any}
use Rattle.jcl_plan.specs.declared.plan.StepPlan.{StepPlan}
use Rattle.jcl_plan.specs.declared.plan.Test.{Test}
use Rattle.jcl_meaning.specs.declared.state.Ended.{Ended}
use Rattle.jcl_meaning.specs.History.{abended, fate_of, is_abend, looks_at, met_by, satisfied, some_satisfied}
use Rattle.cond_core.specs.Classes.{Agree, IsAlike}
use Rattle.cond_core.specs.Fates.{fate_after}
use Rattle.cond_core.specs.Laws.{with_code}

satisfied_alike : (t : Test) (step c d : ℕ) → IsAlike c d t → (others more : List Ended) →
    satisfied (with_code others more step c) t ≡ satisfied (with_code others more step d) t
satisfied_alike t step c d h [] more = ap (λ b. (looks_at t.step step && b) || list_any (λ (e : Ended). met_by t e.step e.outcome) more) h
satisfied_alike t step c d h (e ∷ others) more = ap (λ b. met_by t e.step e.outcome || b) (satisfied_alike t step c d h others more)

some_alike : (tests : List Test) (others more : List Ended) (step c d : ℕ) → Agree tests c d →
    some_satisfied (with_code others more step c) tests ≡ some_satisfied (with_code others more step d) tests
some_alike [] others more step c d h = refl
some_alike (t ∷ tests) others more step c d h =
    let front : satisfied (with_code others more step c) t ≡ satisfied (with_code others more step d) t =
    satisfied_alike t step c d (h 0 t (omega arith)) others more in
    let rest : some_satisfied (with_code others more step c) tests ≡ some_satisfied (with_code others more step d) tests =
    some_alike tests others more step c d (λ k x p. h (suc k) x (omega arith)) in
    (λ i. front i || rest i)

abended_alike : (others more : List Ended) (step c d : ℕ) → abended (with_code others more step c) ≡ abended (with_code others more step d)
abended_alike [] more step c d = refl
abended_alike (e ∷ others) more step c d = ap (λ b. is_abend e.outcome || b) (abended_alike others more step c d)

pub same_fate : (faulted : Bool) (job_tests : List Test) (plan : StepPlan) (others more : List Ended) (step c d : ℕ) → Agree job_tests c d →
    Agree plan.tests.items c d →
    fate_after faulted job_tests (with_code others more step c) plan ≡ fate_after faulted job_tests (with_code others more step d) plan
same_fate faulted job_tests plan others more step c d job own =
    let of_job = some_alike job_tests others more step c d job in
    let of_step = some_alike plan.tests.items others more step c d own in
    let abends = abended_alike others more step c d in
    (λ i. fate_of faulted (of_job i) plan.after_abend (abends i) (of_step i))
