-- A job whose first steps are taken, and whose next step has too many DDNAMEs, is refused for that step, whatever stands behind.
use Rattle.std.proofs.Common.{◌≡◌, ℕ, zero, suc, ◌+◌, ◌-◌, ◌<◌, ◌≤◌, Bool, true, false, cond, nat_lt, List, [], ◌∷◌, ◌++◌, drop, length, map, take, is_some}
use Rattle.std.proofs.Common.{Option, Some, None, Result, Ok, Err, refl, sym, ap, ◌∙◌, subst, arith, length-append}
use Rattle.std.specs.List.{flat_map}
use Rattle.std.proofs.lemmas.List.{drop_at, take_at, map-append, take-append-drop, length-take, length-drop}
use Rattle.std.proofs.lemmas.Option.{slice_get_within}
use Rattle.std.specs.List.{slice_get}
use Rattle.jcl_plan.specs.declared.fault.Cause.{Cause}
use Rattle.jcl_plan.specs.declared.fault.Cause.TheVariants.{P}
use Rattle.jcl_plan.specs.declared.fault.StatementFault.TheVariants.{TestOfNoEarlierStep, TooManyDdNames, TooManyDds}
use Rattle.jcl_plan.specs.declared.plan.DdKind.{DdKind}
use Rattle.jcl_plan.specs.declared.plan.DdKind.TheVariants as kind
use Rattle.jcl_plan.specs.declared.plan.StepPlan.{StepPlan}
use Rattle.jcl_plan.specs.declared.plan.Test.{Test}
use Rattle.list_values.specs.declared.condition.CodedTest.{CodedTest}
use Rattle.operand_core.specs.Faults.{told}
use Rattle.operand_core.proofs.Told.{told-none}
use Rattle.value_core.specs.declared.reference.DdReference.{DdReference}
use Rattle.value_core.specs.declared.reference.DdReference.TheVariants as dd
use Rattle.value_core.specs.declared.reference.StepReference.{StepReference}
use Rattle.value_core.specs.declared.reference.StepReference.TheVariants as step
use Rattle.value_core.specs.declared.set.SetName.{SetName}
use Rattle.value_core.specs.declared.set.SetName.TheVariants as name
use Rattle.value_core.specs.declared.set.VolumeName.{VolumeName}
use Rattle.value_core.specs.declared.set.VolumeName.TheVariants as coded_volume
use Rattle.value_core.specs.Reads.{Read}
use Rattle.jcl_cards.specs.declared.coded.Coded.{Coded}
use Rattle.jcl_cards.specs.declared.coded.Coded.TheVariants.{NotGiven, Nullified, Value}
use Rattle.jcl_cards.specs.declared.job.JobCard.{JobCard}
use Rattle.jcl_dds.specs.declared.dd.DdCard.{DdCard}
use Rattle.jcl_procs.specs.declared.step.FlatStep.{FlatStep}
use Rattle.jcl_procs.specs.Expansions.{and_then}
use Rattle.jcl_refs.specs.declared.targets.Target.{Target}
use Rattle.jcl_refs.specs.LaterDds.{references_of}
use Rattle.jcl_refs.specs.Targets.{dd_position, dds_of, earlier_dd, earlier_named, earlier_step, in_earlier, is_brought_by, is_own_step, is_step_of_call, latest, latest_from, looks_forward, missing, or_else, target_of}
use Rattle.jcl_refs.specs.Plans.{Led, MakesDummy, Names, NamesNothing, Naming, Nowhere, Own, OwnCards, OwnDummy, OwnSet, OwnSysout, Spot, ToDummy, ToSet}
use Rattle.jcl_refs.specs.Plans.{all_of, by_fault, disposition_of, dds_with, dummy_faults, faults_of, key_of, kind_at, kind_of, kind_with, kinds_from, kinds_in, led, led_by, job_with, most_dds, most_steps, plan_of, naming, naming_by, naming_faults, own_kind, refused_if, set_with, spot, step_with, test_of, test_with, tests_of, uncataloged_faults, volume_by, volume_faults, volume_plan, with_dds_left, with_kind}
use Rattle.jcl_refs.specs.Planning.{has_many_dd_names, named, step_by, steps_by, with_units}
use Rattle.jcl_refs.specs.Early.{AreTaken, IsEarly, many_refusal, refusal_by, settled_behind, settled_first}
use Rattle.jcl_refs.proofs.Earlier.{step_within}
use Rattle.jcl_refs.proofs.Latest.{none_left}
use Rattle.jcl_refs.proofs.StepLists.{plan_is}

-- the latest step is one of the first ones
latest_from_same : (holds : FlatStep → Bool) (n k : ℕ) (front more : List FlatStep) → k ≤ n + length front →
    latest_from holds n k (front ++ more) ≡ latest_from holds n k front
latest_from_same holds n k [] more within = none_left holds n k more (omega (arith, within))
latest_from_same holds n k (s ∷ front) more within =
    ap (λ found. let r : Option ℕ = cond (nat_lt n k) (or_else found (cond (holds s) (Some n) None)) None in r)
    (latest_from_same holds (n + 1) k front more (omega (arith, within)))

latest_same : (holds : FlatStep → Bool) (k : ℕ) (front more : List FlatStep) → k ≤ 1 + length front → latest holds k (front ++ more) ≡ latest holds k front
latest_same holds k front more within = latest_from_same holds 1 k front more within

earlier_same : (call : Option ℕ) (reference : StepReference) (k : ℕ) (front more : List FlatStep) → k ≤ 1 + length front →
    earlier_step call reference k (front ++ more) ≡ earlier_step call reference k front
earlier_same None (step.Step name) k front more within = latest_same (is_own_step name) k front more within
earlier_same (Some call) (step.Step name) k front more within =
    ap (λ found. or_else found (latest (is_own_step name) k (front ++ more))) (latest_same (is_step_of_call call name) k front more within)
    ∙ ap (or_else (latest (is_step_of_call call name) k front)) (latest_same (is_own_step name) k front more within)
earlier_same call (step.ProcedureStep name procedure_step) k front more within = latest_same (is_brought_by name procedure_step) k front more within

-- tests
abbrev test_by_step : CodedTest → Option ℕ → Result Test Cause
test_by_step t None = Err (P TestOfNoEarlierStep)
test_by_step t (Some n) = Ok (test_with t (Some n))

abbrev test_by : CodedTest → (StepReference → Option ℕ) → Option StepReference → Result Test Cause
test_by t earlier None = Ok (test_with t None)
test_by t earlier (Some reference) = test_by_step t (earlier reference)

test_same : (t : CodedTest) (f g : StepReference → Option ℕ) (reference : Option StepReference) → ((r : StepReference) → f r ≡ g r) →
    test_by t f reference ≡ test_by t g reference
test_same t f g None same = refl
test_same t f g (Some reference) same = ap (test_by_step t) (same reference)

test_of_same : (call : Option ℕ) (k : ℕ) (front more : List FlatStep) (t : CodedTest) → k ≤ 1 + length front →
    test_of call k (front ++ more) t ≡ test_of call k front t
test_of_same call k front more t within =
    test_same t (λ r. earlier_step call r k (front ++ more)) (λ r. earlier_step call r k front) t.step
    (λ r. earlier_same call r k front more within)

map_same : {A B : Type 0} (f g : A → B) (xs : List A) → ((x : A) → f x ≡ g x) → map f xs ≡ map g xs
map_same f g [] same = refl
map_same f g (x ∷ xs) same = ap (λ y. y ∷ map f xs) (same x) ∙ ap (λ ys. g x ∷ ys) (map_same f g xs same)

tests_same : (call : Option ℕ) (k : ℕ) (front more : List FlatStep) (tests : List CodedTest) → k ≤ 1 + length front →
    tests_of call k (front ++ more) tests ≡ tests_of call k front tests
tests_same call k front more tests within =
    ap all_of (map_same (test_of call k (front ++ more)) (test_of call k front) tests (λ t. test_of_same call k front more t within))

-- the DDs of one of the first steps
abbrev dds_first : List FlatStep → List DdCard
dds_first [] = []
dds_first (s ∷ more) = s.dds

first_same : (n : ℕ) (front more : List FlatStep) → n < length front → dds_first (drop n (front ++ more)) ≡ dds_first (drop n front)
first_same n [] more within = absurd (omega (arith, within))
first_same zero (s ∷ front) more within = refl
first_same (suc n) (s ∷ front) more within = first_same n front more (omega (arith, within))

dds_same : (k : ℕ) (front more : List FlatStep) → k - 1 < length front → dds_of (front ++ more) k ≡ dds_of front k
dds_same k front more within = first_same (k - 1) front more within

-- references
abbrev place_in : ℕ → Option ℕ → Option Target
place_in t None = None
place_in t (Some n) = Some (record { step = t; dd = n })

abbrev dd_in : List FlatStep → List ℕ → Option ℕ → Option Target
dd_in steps name None = None
dd_in steps name (Some t) = place_in t (dd_position name (dds_of steps t))

dd_in_same : (front more : List FlatStep) (name : List ℕ) (found : Option ℕ) → ((t : ℕ) → found ≡ Some t → t - 1 < length front) →
    dd_in (front ++ more) name found ≡ dd_in front name found
dd_in_same front more name None within = refl
dd_in_same front more name (Some t) within = ap (λ dds. place_in t (dd_position name dds)) (dds_same t front more (within t refl))

earlier_dd_same : (call : Option ℕ) (s : StepReference) (name : List ℕ) (k : ℕ) (front more : List FlatStep) → k - 1 < length front →
    earlier_dd call s name k (front ++ more) ≡ earlier_dd call s name k front
earlier_dd_same call s name k front more within =
    ap (dd_in (front ++ more) name) (earlier_same call s k front more (omega (arith, within)))
    ∙ dd_in_same front more name (earlier_step call s k front)
    (λ t is. let bound : t ≤ length front = step_within call s k front t is in omega (arith, within, bound))

abbrev or_missing : Bool → Option Target → Result Target Cause
or_missing forward None = Err (missing forward)
or_missing forward (Some t) = Ok t

found_ok : (a b : Option Target) (f g : Bool) (t : Target) → a ≡ b → or_missing g b ≡ Ok t → or_missing f a ≡ Ok t
found_ok a None f g t same is = cc
found_ok a (Some other) f g t same is = ap (or_missing f) same ∙ is

in_earlier_same : (call : Option ℕ) (s : StepReference) (name : List ℕ) (k : ℕ) (front more : List FlatStep) (t : Target) → k - 1 < length front →
    in_earlier call s name k front ≡ Ok t → in_earlier call s name k (front ++ more) ≡ Ok t
in_earlier_same call s name k front more t within is =
    found_ok (earlier_dd call s name k (front ++ more)) (earlier_dd call s name k front) (looks_forward call s name k (front ++ more))
    (looks_forward call s name k front) t (earlier_dd_same call s name k front more within) is

target_same : (call : Option ℕ) (k d : ℕ) (front more : List FlatStep) (reference : DdReference) (t : Target) → k - 1 < length front →
    target_of call k d front reference ≡ Ok t → target_of call k d (front ++ more) reference ≡ Ok t
target_same call k d front more (dd.Dd name) t within is =
    ap (λ dds. let r : Result Target Cause = Rattle.jcl_refs.specs.Targets.in_step name k d dds in r) (dds_same k front more within) ∙ is
target_same call k d front more (dd.OfStep s name) t within is = in_earlier_same call (step.Step s) name k front more t within is
target_same call k d front more (dd.OfProcedureStep s p name) t within is =
    in_earlier_same call (step.ProcedureStep s p) name k front more t within is

-- what a reference leads to
abbrev led_to : List (List DdKind) → Result Target Cause → Led
led_to planned (Err fault) = Nowhere fault
led_to planned (Ok t) = led_by t (kind_at planned t)

led_by_same : (planned : List (List DdKind)) (a b : Result Target Cause) → ((t : Target) → a ≡ Ok t → b ≡ Ok t) →
    faults_of (led_to planned a) ≡ [] → led_to planned b ≡ led_to planned a
led_by_same planned (Err fault) b same none = cc
led_by_same planned (Ok t) b same none = ap (led_to planned) (same t refl)

-- A DD that is taken among the first steps is taken among all, where each reference that leads somewhere there leads there here too.
abbrev Leads : Spot → Spot → Type 0
Leads a b = (r : DdReference) → faults_of (led a r) ≡ [] → led b r ≡ led a r

named_none : (l : Led) → naming_faults (naming_by l) ≡ [] → faults_of l ≡ []
named_none (ToSet t p) none = refl
named_none ToDummy none = refl
named_none (Nowhere fault) none = none

naming_same : (a b : Spot) → Leads a b → naming b NotGiven ≡ naming a NotGiven → (n : Coded SetName) → naming_faults (naming a n) ≡ [] →
    naming b n ≡ naming a n
naming_same a b leads unnamed NotGiven none = unnamed
naming_same a b leads unnamed Nullified none = unnamed
naming_same a b leads unnamed (Value name.Null) none = refl
naming_same a b leads unnamed (Value (name.Of key)) none = refl
naming_same a b leads unnamed (Value (name.OfDd r)) none = ap naming_by (leads r (named_none (led a r) none))

dummy_none : (for_set : Bool) (l : Led) → dummy_faults for_set l ≡ [] → faults_of l ≡ []
dummy_none for_set (ToSet t p) none = refl
dummy_none for_set ToDummy none = refl
dummy_none for_set (Nowhere fault) none = none

volume_faults_same : (a b : Spot) → Leads a b → (for_set : Bool) (v : Coded VolumeName) → volume_faults for_set a v ≡ [] →
    volume_faults for_set b v ≡ volume_faults for_set a v
volume_faults_same a b leads for_set NotGiven none = refl
volume_faults_same a b leads for_set Nullified none = refl
volume_faults_same a b leads for_set (Value coded_volume.Any) none = refl
volume_faults_same a b leads for_set (Value (coded_volume.Serial serial)) none = refl
volume_faults_same a b leads for_set (Value (coded_volume.OfName n)) none = refl
volume_faults_same a b leads for_set (Value (coded_volume.OfDd r)) none = ap (dummy_faults for_set) (leads r (dummy_none for_set (led a r) none))

volume_plan_same : (a b : Spot) → Leads a b → (for_set : Bool) (v : Coded VolumeName) → volume_faults for_set a v ≡ [] → volume_plan b v ≡ volume_plan a v
volume_plan_same a b leads for_set NotGiven none = refl
volume_plan_same a b leads for_set Nullified none = refl
volume_plan_same a b leads for_set (Value coded_volume.Any) none = refl
volume_plan_same a b leads for_set (Value (coded_volume.Serial serial)) none = refl
volume_plan_same a b leads for_set (Value (coded_volume.OfName n)) none = refl
volume_plan_same a b leads for_set (Value (coded_volume.OfDd r)) none = ap volume_by (leads r (dummy_none for_set (led a r) none))

left_none : {X : Type 0} (xs ys : List X) → xs ++ ys ≡ [] → xs ≡ []
left_none [] ys none = refl
left_none (x ∷ xs) ys none = cc

right_none : {X : Type 0} (xs ys : List X) → xs ++ ys ≡ [] → ys ≡ []
right_none [] ys none = none
right_none (x ∷ xs) ys none = cc

references_same : (a b : Spot) → Leads a b → (rs : List DdReference) → flat_map (λ r. faults_of (led a r)) rs ≡ [] →
    flat_map (λ r. faults_of (led b r)) rs ≡ flat_map (λ r. faults_of (led a r)) rs
references_same a b leads [] none = refl
references_same a b leads (r ∷ rs) none =
    let here = left_none (faults_of (led a r)) (flat_map (λ r. faults_of (led a r)) rs) none in
    let rest = right_none (faults_of (led a r)) (flat_map (λ r. faults_of (led a r)) rs) none in
    ap (λ l. faults_of l ++ flat_map (λ r. faults_of (led b r)) rs) (leads r here)
    ∙ ap (λ more. faults_of (led a r) ++ more) (references_same a b leads rs rest)

kind_with_same : (a b : Spot) (dd : DdCard) (own : Own) (n : Naming) → volume_plan b dd.volume ≡ volume_plan a dd.volume →
    kind_with b dd own n ≡ kind_with a dd own n
kind_with_same a b dd OwnSet (Names key) same = ap (λ volume. let k : DdKind = kind.Set (record (set_with a dd key) { volume = volume }) in k) same
kind_with_same a b dd OwnSet MakesDummy same = refl
kind_with_same a b dd OwnSet (NamesNothing fault) same = refl
kind_with_same a b dd OwnDummy n same = refl
kind_with_same a b dd (OwnSysout class) n same = refl
kind_with_same a b dd (OwnCards cards) n same = refl

kind_same : (a b : Spot) → Leads a b → naming b NotGiven ≡ naming a NotGiven → (dd : DdCard) → (kind_of a dd).faults ≡ [] → kind_of b dd ≡ kind_of a dd
kind_same a b leads unnamed dd none =
    let own = own_kind dd in
    let d = disposition_of dd.disposition in
    let rs = references_of dd.control_blocks in
    let na = naming a dd.set_name in
    let nb = naming b dd.set_name in
    let names = naming_faults na in
    let volume : Spot → Naming → List Cause = λ at n. volume_faults (is_some (key_of own n)) at dd.volume in
    let blocks : Spot → List Cause = λ at. flat_map (λ r. faults_of (led at r)) rs in
    let last : Naming → List Cause = λ n. uncataloged_faults (key_of own n) d in
    let three = left_none (names ++ volume a na ++ blocks a) (last na) none in
    let two = left_none (names ++ volume a na) (blocks a) three in
    let no_name = left_none names (volume a na) two in
    let no_volume = right_none names (volume a na) two in
    let no_block = right_none (names ++ volume a na) (blocks a) three in
    let named = naming_same a b leads unnamed dd.set_name no_name in
    let faults : Naming → List Cause → List Cause → List Cause = λ n v r. naming_faults n ++ v ++ r ++ last n in
    let made : DdKind → List Cause → Read DdKind = λ value faults. record { value = value; faults = faults } in
    let same_faults : faults nb (volume b nb) (blocks b) ≡ faults na (volume a na) (blocks a) =
    ap (λ n. faults n (volume b n) (blocks b)) named
    ∙ ap (λ v. faults na v (blocks b)) (volume_faults_same a b leads (is_some (key_of own na)) dd.volume no_volume)
    ∙ ap (λ r. faults na (volume a na) r) (references_same a b leads rs no_block) in
    let same_value : kind_with b dd own nb ≡ kind_with a dd own na =
    ap (kind_with b dd own) named
    ∙ kind_with_same a b dd own na (volume_plan_same a b leads (is_some (key_of own na)) dd.volume no_volume) in
    ap (λ v. made v (faults nb (volume b nb) (blocks b))) same_value ∙ ap (made (kind_with a dd own na)) same_faults

leads_on : (front more : List FlatStep) (call : Option ℕ) (k : ℕ) (planned : List (List DdKind)) (here : List DdKind) → k - 1 < length front →
    Leads (spot front call k planned here) (spot (front ++ more) call k planned here)
leads_on front more call k planned here within = λ r none.
    led_by_same (with_kind planned here) (target_of call k (length here + 1) front r) (target_of call k (length here + 1) (front ++ more) r)
    (λ t is. target_same call k (length here + 1) front more r t within is) none

-- the DDs of one of the first steps
no_told : {A : Type 0} (fault : Option Cause) (next : Result A Cause) (a : A) → by_fault fault next ≡ Ok a → (fault ≡ None) × (next ≡ Ok a)
no_told None next a is = (refl, is)
no_told (Some fault) next a is = cc

kinds_same : (front more : List FlatStep) (call : Option ℕ) (k : ℕ) (planned : List (List DdKind)) → k - 1 < length front → (here : List DdKind)
    (dds : List DdCard) (kinds : List DdKind) → kinds_from front call k planned here dds ≡ Ok kinds → kinds_from (front ++ more) call k planned here dds ≡ Ok kinds
kinds_same front more call k planned within here [] kinds is = is
kinds_same front more call k planned within here (dd ∷ dds) kinds is =
    let a = spot front call k planned here in
    let b = spot (front ++ more) call k planned here in
    let read = kind_of a dd in
    let next : Read DdKind → Result (List DdKind) Cause = λ r. kinds_from (front ++ more) call k planned (here ++ r.value ∷ []) dds in
    let was = no_told (told read.faults) (kinds_from front call k planned (here ++ read.value ∷ []) dds) kinds is in
    let same = kind_same a b (leads_on front more call k planned here within) refl dd (told-none read.faults was.0) in
    ap (λ (r : Read DdKind). by_fault (told r.faults) (next r)) same
    ∙ ap (λ f. by_fault f (next read)) was.0
    ∙ kinds_same front more call k planned within (here ++ read.value ∷ []) dds kinds was.1

-- one of the first steps
step_cases : (tests : Result (List Test) Cause) (many large : Bool) (a b : Result (List DdKind) Cause) (make : List Test → List DdKind → StepPlan)
    (plan : StepPlan) → ((kinds : List DdKind) → a ≡ Ok kinds → b ≡ Ok kinds) →
    and_then tests (λ ts. refused_if many (P TooManyDdNames) (refused_if large (P TooManyDds) (and_then a (λ kinds. Ok (make ts kinds))))) ≡ Ok plan →
    and_then tests (λ ts. refused_if many (P TooManyDdNames) (refused_if large (P TooManyDds) (and_then b (λ kinds. Ok (make ts kinds))))) ≡ Ok plan
step_cases (Err fault) many large a b make plan same is = cc
step_cases (Ok ts) true large a b make plan same is = cc
step_cases (Ok ts) false true a b make plan same is = cc
step_cases (Ok ts) false false (Err fault) b make plan same is = cc
step_cases (Ok ts) false false (Ok kinds) b make plan same is =
    ap (λ (r : Result (List DdKind) Cause). and_then r (λ kinds. let made : Result StepPlan Cause = Ok (make ts kinds) in made)) (same kinds refl) ∙ is

step_same : (front more : List FlatStep) (k : ℕ) (planned : List (List DdKind)) (many : Bool) (s : FlatStep) (plan : StepPlan) → k - 1 < length front →
    step_by front k planned many s ≡ Ok plan → step_by (front ++ more) k planned many s ≡ Ok plan
step_same front more k planned many s plan within is =
    let tests = s.condition.tests.items in
    let b = kinds_from (front ++ more) s.call k planned [] s.dds in
    let make : List Test → List DdKind → StepPlan = λ ts kinds. step_with s ts (dds_with s.dds kinds) in
    let all : Result (List Test) Cause → Result StepPlan Cause = λ found. and_then found (λ ts. refused_if many (P TooManyDdNames)
    (refused_if (nat_lt most_dds (length s.dds)) (P TooManyDds) (and_then b (λ kinds. Ok (make ts kinds))))) in
    ap all (tests_same s.call k front more tests (omega (arith, within)))
    ∙ step_cases (tests_of s.call k front tests) many (nat_lt most_dds (length s.dds)) (kinds_from front s.call k planned [] s.dds) b make plan
    (λ kinds. kinds_same front more s.call k planned within [] s.dds kinds) is

ok_first : {A B : Type 0} (r : Result A Cause) (next : A → Result B Cause) (b : B) → and_then r next ≡ Ok b → (a : A) × (r ≡ Ok a) × (next a ≡ Ok b)
ok_first (Err fault) next b is = cc
ok_first (Ok a) next b is = (a, refl, is)

refused_here : {B : Type 0} (tests : Result (List Test) Cause) (next : StepPlan → Result B Cause) →
    and_then (and_then tests (λ ts. let r : Result StepPlan Cause = Err (P TooManyDdNames) in r)) next ≡ Err (refusal_by tests)
refused_here (Ok ts) next = refl
refused_here (Err fault) next = refl

go : (front behind : List FlatStep) (s : FlatStep) (more : List Bool) (k : ℕ) (done : List StepPlan) (many : List Bool) (left : List FlatStep)
    (plans : List StepPlan) → k + length left ≡ length front + 1 → 1 ≤ k → length many ≡ length left → steps_by front k done many left ≡ Ok plans →
    steps_by (front ++ s ∷ behind) k done (many ++ true ∷ more) (left ++ s ∷ behind) ≡ Err (many_refusal front s)
go front behind s more k done [] [] plans place one as_many is =
    let k_is : k ≡ length front + 1 = omega (arith, place) in
    let tests = s.condition.tests.items in
    let next : StepPlan → Result (List StepPlan) Cause = λ plan. steps_by (front ++ s ∷ behind) (k + 1) (done ++ plan ∷ []) more behind in
    ap (λ found. and_then (and_then found (λ ts. let r : Result StepPlan Cause = Err (P TooManyDdNames) in r)) next)
    (tests_same s.call k front (s ∷ behind) tests (omega (arith, k_is)) ∙ ap (λ n. tests_of s.call n front tests) k_is)
    ∙ refused_here (tests_of s.call (length front + 1) front tests) next
go front behind s more k done [] (x ∷ left) plans place one as_many is = absurd (omega (arith, as_many))
go front behind s more k done (b ∷ many) [] plans place one as_many is = absurd (omega (arith, as_many))
go front behind s more k done (b ∷ many) (x ∷ left) plans place one as_many is =
    let planned = map kinds_in done in
    let first = ok_first (step_by front k planned b x) (λ plan. steps_by front (k + 1) (done ++ plan ∷ []) many left) plans is in
    let within : k - 1 < length front = omega (arith, place, one) in
    ap (λ (r : Result StepPlan Cause). and_then r (λ plan. steps_by (front ++ s ∷ behind) (k + 1) (done ++ plan ∷ []) (many ++ true ∷ more) (left ++ s ∷ behind)))
    (step_same front (s ∷ behind) k planned b x first.0 within first.1)
    ∙ go front behind s more (k + 1) (done ++ first.0 ∷ []) many left plans (omega (arith, place)) (omega (arith, one)) (omega (arith, as_many)) first.2

pub early : (front behind : List FlatStep) (s : FlatStep) (many more : List Bool) (plans : List StepPlan) → length many ≡ length front →
    steps_by front 1 [] many front ≡ Ok plans →
    steps_by (front ++ s ∷ behind) 1 [] (many ++ true ∷ more) (front ++ s ∷ behind) ≡ Err (many_refusal front s)
early front behind s many more plans as_many is =
    go front behind s more 1 [] many front plans (omega arith) (omega arith) as_many is

-- the steps and their marks, cut where the first has too many
marks_cut : (many : List Bool) (count : ℕ) → slice_get many count ≡ Some true → many ≡ take count many ++ true ∷ drop (suc count) many
marks_cut [] count there = cc
marks_cut (b ∷ many) zero there = let is : b ≡ true = cc in ap (λ (x : Bool). x ∷ many) is
marks_cut (b ∷ many) (suc count) there = ap (λ bs. b ∷ bs) (marks_cut many count there)

taken_length : {X : Type 0} (xs : List X) (n : ℕ) → n ≤ length xs → length (take n xs) ≡ n
taken_length xs n within = omega (arith, length-take n xs)

pub is_early : (steps : List FlatStep) (many : List Bool) (count : ℕ) (s : FlatStep) (rest front : List FlatStep) (before : List Bool) →
    length many ≡ length steps → slice_get many count ≡ Some true → drop count steps ≡ s ∷ rest → front ≡ take count steps → before ≡ take count many →
    AreTaken front before → IsEarly steps many count (many_refusal front s)
is_early steps many count s rest front before as_many there split front_is before_is taken =
    let lt : count < length many = slice_get_within many count true there in
    let same : length before ≡ length front =
    ap (λ (bs : List Bool). length bs) before_is ∙ taken_length many count (omega (arith, lt))
    ∙ sym (ap (λ (ss : List FlatStep). length ss) front_is ∙ taken_length steps count (omega (arith, lt, as_many))) in
    let left_is : settled_behind count steps ≡ front ++ with_dds_left s ∷ map with_dds_left rest =
    ap (λ ss. ss ++ map with_dds_left (drop count steps)) (sym front_is) ∙ ap (λ ss. front ++ map with_dds_left ss) split in
    let many_is : many ≡ before ++ true ∷ drop (suc count) many =
    marks_cut many count there ∙ ap (λ bs. bs ++ true ∷ drop (suc count) many) (sym before_is) in
    ap (λ ss. steps_by ss 1 [] many ss) left_is
    ∙ ap (λ bs. steps_by (front ++ with_dds_left s ∷ map with_dds_left rest) 1 [] bs (front ++ with_dds_left s ∷ map with_dds_left rest)) many_is
    ∙ early front (map with_dds_left rest) (with_dds_left s) before (drop (suc count) many) taken.0 same taken.1

mapped_length : {X Y : Type 0} (f : X → Y) (xs : List X) → length (map f xs) ≡ length xs
mapped_length f [] = refl
mapped_length f (x ∷ xs) = ap (λ n. suc n) (mapped_length f xs)

-- the first settled, and then the others
pub all_settled : (steps : List FlatStep) (count : ℕ) → count ≤ length steps → settled_behind count (settled_first count steps) ≡ map with_dds_left steps
all_settled steps count within =
    let front = map with_dds_left (take count steps) in
    let size : length front ≡ count = mapped_length with_dds_left (take count steps) ∙ taken_length steps count within in
    let cut : drop count (front ++ drop count steps) ≡ drop count steps = drop_at front (drop count steps) count size in
    let kept : take count (front ++ drop count steps) ≡ front = take_at front (drop count steps) count size in
    ap (λ ss. ss ++ map with_dds_left (drop count (front ++ drop count steps))) kept
    ∙ ap (λ ss. front ++ map with_dds_left ss) cut
    ∙ sym (map-append with_dds_left (take count steps) (drop count steps))
    ∙ ap (map with_dds_left) (take-append-drop count steps)

pub settled_length : (steps : List FlatStep) (count : ℕ) → count ≤ length steps → length (settled_first count steps) ≡ length steps
settled_length steps count within =
    let front = map with_dds_left (take count steps) in
    let size : length front ≡ count = mapped_length with_dds_left (take count steps) ∙ taken_length steps count within in
    let rest : length (drop count steps) ≡ length steps - count = length-drop count steps in
    let both : length (front ++ drop count steps) ≡ length front + length (drop count steps) = length-append front (drop count steps) in
    omega (arith, both, size, rest, within)

pub within_marks : (steps : List FlatStep) (many : List Bool) (count : ℕ) → many ≡ map has_many_dd_names steps → slice_get many count ≡ Some true →
    count ≤ length steps
within_marks steps many count many_is there =
    let lt : count < length many = slice_get_within many count true there in
    let size : length many ≡ length steps = ap (λ (bs : List Bool). length bs) many_is ∙ mapped_length has_many_dd_names steps in
    omega (arith, lt, size)

-- the job's refusal
pub early_plan : (units : List (List ℕ)) (job : JobCard) (steps first : List FlatStep) (many : List Bool) (count : ℕ) (cause : Cause) →
    length steps ≤ most_steps → many ≡ map has_many_dd_names steps → slice_get many count ≡ Some true → first ≡ settled_first count steps →
    IsEarly first many count cause → plan_of units job steps ≡ Err cause
early_plan units job steps first many count cause few many_is there first_is refused =
    let left = map with_dds_left steps in
    let within = within_marks steps many count many_is there in
    let all : settled_behind count first ≡ left = ap (settled_behind count) first_is ∙ all_settled steps count within in
    let err : steps_by left 1 [] many left ≡ Err cause = subst (λ ss. steps_by ss 1 [] many ss ≡ Err cause) all refused in
    sym (plan_is units job steps left many few refl many_is)
    ∙ ap (λ (r : Result (List StepPlan) Cause). and_then (and_then r (λ plans. named (job_with job plans))) (with_units units left)) err
