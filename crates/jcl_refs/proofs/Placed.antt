-- Parts of a plan that are changed in their places, one after another.
use Rattle.std.proofs.Common.{◌≡◌, ℕ, zero, suc, ◌+◌, ◌<◌, List, [], ◌∷◌, drop, length, take, slice_index_or, slice_set, Result, Ok, Err, refl, sym, ap, ◌∙◌, subst, arith, add-one}
use Rattle.jcl_plan.specs.declared.fault.Cause.{Cause}
use Rattle.jcl_plan.specs.declared.plan.DdPlan.{DdPlan}
use Rattle.jcl_plan.specs.declared.plan.StepPlan.{StepPlan}
use Rattle.jcl_dds.specs.declared.dd.DdCard.{DdCard}
use Rattle.jcl_procs.specs.declared.step.FlatStep.{FlatStep}
use Rattle.jcl_refs.specs.Plans.{all_of, onto, unit_of, units_of_dds, units_of_step, units_of_steps}
use Rattle.jcl_refs.specs.Planning.{Puts}
use Rattle.jcl_refs.proofs.TestLists.{behind}

abbrev pub each : {X A : Type 0} → (X → A → Result A Cause) → List X → List A → List (Result A Cause)
each change [] parts = []
each change (x ∷ xs) [] = []
each change (x ∷ xs) (part ∷ parts) = change x part ∷ each change xs parts

-- all, where the first n are changed
abbrev pub from_here : {X A : Type 0} → (X → A → Result A Cause) → ℕ → List X → List A → Result (List A) Cause
from_here change n xs parts = behind (take n parts) (all_of (each change (drop n xs) (drop n parts)))

behind_none : {A : Type 0} (r : Result (List A) Cause) → behind [] r ≡ r
behind_none (Err fault) = refl
behind_none (Ok more) = refl

behind_one : {A : Type 0} (a : A) (r : Result (List A) Cause) → behind (a ∷ []) r ≡ onto a r
behind_one a (Err fault) = refl
behind_one a (Ok more) = refl

behind_more : {A : Type 0} (a : A) (front : List A) (r : Result (List A) Cause) → behind (a ∷ front) r ≡ onto a (behind front r)
behind_more a front (Err fault) = refl
behind_more a front (Ok more) = refl

pub from_start : {X A : Type 0} (change : X → A → Result A Cause) (xs : List X) (parts : List A) →
    from_here change 0 xs parts ≡ all_of (each change xs parts)
from_start change xs parts = behind_none (all_of (each change xs parts))

first_of_all : {A : Type 0} (r : Result A Cause) (a : A) (rs : List (Result A Cause)) → r ≡ Ok a → all_of (r ∷ rs) ≡ onto a (all_of rs)
first_of_all {A} r a rs is = ap (λ (x : Result A Cause). all_of (x ∷ rs)) is

fault_of_all : {A : Type 0} (r : Result A Cause) (fault : Cause) (rs : List (Result A Cause)) → r ≡ Err fault → all_of (r ∷ rs) ≡ Err fault
fault_of_all {A} r fault rs is = ap (λ (x : Result A Cause). all_of (x ∷ rs)) is

one_more_by : {X A : Type 0} (change : X → A → Result A Cause) (n : ℕ) (xs : List X) (parts : List A) (x : X) (part new : A) →
    length xs ≡ length parts → n < length xs → x ≡ slice_index_or xs n x → change x (slice_index_or parts n part) ≡ Ok new →
    from_here change (suc n) xs (slice_set parts n new) ≡ from_here change n xs parts
one_more_by change n [] parts x part new same lt at is = absurd (omega (arith, lt))
one_more_by change n (y ∷ xs) [] x part new same lt at is = absurd (omega (arith, same))
one_more_by {X} {A} change zero (y ∷ xs) (p ∷ parts) x part new same lt at is =
    let changed : change y p ≡ Ok new = ap (λ (z : X). change z p) (sym at) ∙ is in
    behind_one new (all_of (each change xs parts))
    ∙ sym (first_of_all (change y p) new (each change xs parts) changed)
    ∙ sym (behind_none (all_of (change y p ∷ each change xs parts)))
one_more_by change (suc n) (y ∷ xs) (p ∷ parts) x part new same lt at is =
    behind_more p (take (suc n) (slice_set parts n new)) (all_of (each change (drop (suc n) xs) (drop (suc n) (slice_set parts n new))))
    ∙ ap (onto p) (one_more_by change n xs parts x part new (omega (arith, same)) (omega (arith, lt)) at is)
    ∙ sym (behind_more p (take n parts) (all_of (each change (drop n xs) (drop n parts))))

pub one_more : {X A : Type 0} (change : X → A → Result A Cause) (n : ℕ) (xs : List X) (parts : List A) (x : X) (part new : A) →
    length xs ≡ length parts → n < length xs → x ≡ slice_index_or xs n x → change x (slice_index_or parts n part) ≡ Ok new →
    from_here change (n + 1) xs (slice_set parts n new) ≡ from_here change n xs parts
one_more change n xs parts x part new same lt at is =
    ap (λ m. from_here change m xs (slice_set parts n new)) (add-one n) ∙ one_more_by change n xs parts x part new same lt at is

pub refused_here : {X A : Type 0} (change : X → A → Result A Cause) (n : ℕ) (xs : List X) (parts : List A) (x : X) (part : A) (fault : Cause) →
    length xs ≡ length parts → n < length xs → x ≡ slice_index_or xs n x → change x (slice_index_or parts n part) ≡ Err fault →
    from_here change n xs parts ≡ Err fault
refused_here change n [] parts x part fault same lt at is = absurd (omega (arith, lt))
refused_here change n (y ∷ xs) [] x part fault same lt at is = absurd (omega (arith, same))
refused_here {X} {A} change zero (y ∷ xs) (p ∷ parts) x part fault same lt at is =
    let changed : change y p ≡ Err fault = ap (λ (z : X). change z p) (sym at) ∙ is in
    behind_none (all_of (change y p ∷ each change xs parts)) ∙ fault_of_all (change y p) fault (each change xs parts) changed
refused_here change (suc n) (y ∷ xs) (p ∷ parts) x part fault same lt at is =
    behind_more p (take n parts) (all_of (each change (drop n xs) (drop n parts)))
    ∙ ap (onto p) (refused_here change n xs parts x part fault (omega (arith, same)) (omega (arith, lt)) at is)

pub at_end : {X A : Type 0} (change : X → A → Result A Cause) (n : ℕ) (xs : List X) (parts : List A) →
    n ≡ length xs → length xs ≡ length parts → from_here change n xs parts ≡ Ok parts
at_end change zero [] [] end same = refl
at_end change zero [] (p ∷ parts) end same = absurd (omega (arith, same))
at_end change zero (x ∷ xs) parts end same = absurd (omega (arith, end))
at_end change (suc n) [] parts end same = absurd (omega (arith, end))
at_end change (suc n) (x ∷ xs) [] end same = absurd (omega (arith, same))
at_end change (suc n) (x ∷ xs) (p ∷ parts) end same =
    behind_more p (take n parts) (all_of (each change (drop n xs) (drop n parts)))
    ∙ ap (onto p) (at_end change n xs parts (omega (arith, end)) (omega (arith, same)))

-- DDs, and steps
abbrev pub change_dd : List (List ℕ) → DdCard → DdPlan → Result DdPlan Cause
change_dd units card dd = unit_of units card.unit dd

pub each_dd : (units : List (List ℕ)) (cards : List DdCard) (dds : List DdPlan) → units_of_dds units cards dds ≡ each (change_dd units) cards dds
each_dd units [] dds = refl
each_dd units (card ∷ cards) [] = refl
each_dd units (card ∷ cards) (dd ∷ dds) = ap (λ others. unit_of units card.unit dd ∷ others) (each_dd units cards dds)

pub each_step : (units : List (List ℕ)) (steps : List FlatStep) (plans : List StepPlan) →
    units_of_steps units steps plans ≡ each (units_of_step units) steps plans
each_step units [] plans = refl
each_step units (s ∷ steps) [] = refl
each_step units (s ∷ steps) (plan ∷ plans) = ap (λ others. units_of_step units s plan ∷ others) (each_step units steps plans)

-- what a `?` refuses
pub puts_err : {A : Type 0} (new : A) (fault : Cause) (given : Result A Cause) (result : Result (Unit {0}) Cause) →
    (d : Cause) × (result ≡ Err d) × (d ≡ fault) → given ≡ Err fault → Puts result new given
puts_err {A} new fault given result exit is =
    let F : Result (Unit {0}) Cause → Type 0 = λ r. Puts r new given in
    subst F (sym (exit.1 ∙ ap (λ (d : Cause). let r : Result (Unit {0}) Cause = Err d in r) exit.2)) is
