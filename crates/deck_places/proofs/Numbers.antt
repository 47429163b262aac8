-- A job of no more steps than it may have is not refused for their number.
use Rattle.std.proofs.Common.{◌≡◌, ◌∷◌, ◌++◌, ◌∙◌, ◌==◌, ◌+◌, ◌&&◌, ◌||◌, ℕ, Bool, true, false, List, [], Option, None, Some, Result, Ok, Err, ap, length, map, nat_lt, refl, sym}
use Rattle.std.specs.Prelude.{count_by, is_some, if◌then◌else◌}
use Rattle.std.specs.List.{flat_map}
use Rattle.jname_core.specs.declared.key.Key.{Key}
use Rattle.jcl_plan.specs.declared.fault.Cause.{Cause}
use Rattle.jcl_plan.specs.declared.fault.Cause.TheVariants.{P}
use Rattle.jcl_plan.specs.declared.fault.StatementFault.TheVariants.{ExcludeOneAnother, ForwardReference, ReferenceToNothing, TestOfNoEarlierStep, TooManyDdNames, TooManyDds, TooManyNames, TooManySteps, UnknownUnit}
use Rattle.jcl_plan.specs.declared.plan.DdKind.{DdKind}
use Rattle.jcl_plan.specs.declared.plan.DdKind.TheVariants as kind
use Rattle.jcl_plan.specs.declared.plan.DdPlan.{DdPlan}
use Rattle.jcl_plan.specs.declared.plan.JobPlan.{JobPlan}
use Rattle.jcl_plan.specs.declared.plan.StepPlan.{StepPlan}
use Rattle.jcl_plan.specs.declared.plan.Test.{Test}
use Rattle.operand_core.specs.Faults.{earlier, lower, rank, told, when}
use Rattle.list_values.specs.declared.condition.CodedTest.{CodedTest}
use Rattle.value_core.specs.declared.reference.DdReference.{DdReference}
use Rattle.value_core.specs.declared.reference.DdReference.TheVariants as dd_reference
use Rattle.value_core.specs.declared.reference.StepReference.{StepReference}
use Rattle.value_core.specs.declared.reference.StepReference.TheVariants as step_reference
use Rattle.value_core.specs.declared.set.Disposition.{Disposition}
use Rattle.value_core.specs.declared.set.SetName.{SetName}
use Rattle.value_core.specs.declared.set.SetName.TheVariants as name
use Rattle.value_core.specs.declared.set.VolumeName.{VolumeName}
use Rattle.value_core.specs.declared.set.VolumeName.TheVariants as coded_volume
use Rattle.jcl_cards.specs.declared.coded.Coded.{Coded}
use Rattle.jcl_cards.specs.declared.coded.Coded.TheVariants.{NotGiven, Nullified, Value}
use Rattle.jcl_cards.specs.declared.job.JobCard.{JobCard}
use Rattle.jcl_cards.specs.Keywords.{is_given}
use Rattle.jcl_dds.specs.declared.dd.DdCard.{DdCard}
use Rattle.jcl_procs.specs.declared.step.FlatStep.{FlatStep}
use Rattle.jcl_procs.specs.Counting.{is_over}
use Rattle.jcl_procs.specs.Expansions.{and_then}
use Rattle.jcl_meaning.specs.Names.{names_of}
use Rattle.jcl_refs.specs.declared.targets.Target.{Target}
use Rattle.jcl_refs.specs.LaterDds.{references_of}
use Rattle.jcl_refs.specs.Plans.{Led, MakesDummy, Names, NamesNothing, Naming, Nowhere, Spot, ToDummy, ToSet, all_of, by_fault, dds_with, disposition_of, dummy_faults, faults_of, job_with, key_of, kind_at, kind_of, kinds_from, kinds_in, led, led_by, most_dd_names, most_dds, most_names, most_steps, naming, naming_by, naming_faults, naming_of, onto, own_kind, plan_by, plan_of, refused_if, spot, step_of, step_with, steps_from, test_of, test_with, tests_of, uncataloged_faults, unit_number, unit_of, units_of_dds, units_of_step, units_of_steps, volume_faults, with_dds_left, with_units}
use Rattle.jcl_refs.specs.Targets.{dd_position, dds_of, earlier_dd, earlier_step, looks_forward, missing, target_of}
use Rattle.deck_places.specs.Cuts.{by_steps, is_refused_in, plan_part}

-- a fault of another part than the number of steps
abbrev Other : Cause → Type 0
Other c = (plan_part c == 1) ≡ false

abbrev Others : List Cause → Type 0
Others [] = Unit {0}
Others (c ∷ cs) = Other c × Others cs

abbrev OtherSome : Option Cause → Type 0
OtherSome None = Unit {0}
OtherSome (Some c) = Other c

abbrev OtherErr : {A : Type 0} → Result A Cause → Type 0
OtherErr (Ok a) = Unit {0}
OtherErr (Err c) = Other c

lower_by : (t : Bool) (a b : Cause) → Other a → Other b → Other (if t then b else a)
lower_by true a b one two = two
lower_by false a b one two = one

earlier_other : (a : Cause) (o : Option Cause) → Other a → OtherSome o → OtherSome (earlier (Some a) o)
earlier_other a None one two = one
earlier_other a (Some b) one two = lower_by (nat_lt (rank b) (rank a)) a b one two

told_other : (cs : List Cause) → Others cs → OtherSome (told cs)
told_other [] all = tt
told_other (c ∷ cs) all = earlier_other c (told cs) all.0 (told_other cs all.1)

both_others : (a b : List Cause) → Others a → Others b → Others (a ++ b)
both_others [] b one two = two
both_others (c ∷ a) b one two = (one.0, both_others a b one.1 two)

when_other : (t : Bool) (c : Cause) → Other c → Others (when t c)
when_other true c one = (one, tt)
when_other false c one = tt

then_other : {A B : Type 0} (r : Result A Cause) (next : A → Result B Cause) → OtherErr r → ((a : A) → OtherErr (next a)) → OtherErr (and_then r next)
then_other (Ok a) next one more = more a
then_other (Err c) next one more = one

refused_other : {A : Type 0} (t : Bool) (c : Cause) (next : Result A Cause) → Other c → OtherErr next → OtherErr (refused_if t c next)
refused_other true c next one more = one
refused_other false c next one more = more

fault_other : {A : Type 0} (o : Option Cause) (next : Result A Cause) → OtherSome o → OtherErr next → OtherErr (by_fault o next)
fault_other None next one more = more
fault_other (Some c) next one more = one

onto_other : {A : Type 0} (a : A) (r : Result (List A) Cause) → OtherErr r → OtherErr (onto a r)
onto_other a (Ok more) one = tt
onto_other a (Err c) one = one

abbrev AllOther : {A : Type 0} → List (Result A Cause) → Type 0
AllOther [] = Unit {0}
AllOther (r ∷ rs) = OtherErr r × AllOther rs

all_other : {A : Type 0} (rs : List (Result A Cause)) → AllOther rs → OtherErr (all_of rs)
all_other [] all = tt
all_other (Err c ∷ rs) all = all.0
all_other (Ok a ∷ rs) all = onto_other a (all_of rs) (all_other rs all.1)

map_other : {A B : Type 0} (f : A → Result B Cause) (xs : List A) → ((a : A) → OtherErr (f a)) → AllOther (map f xs)
map_other f [] each = tt
map_other f (x ∷ xs) each = (each x, map_other f xs each)

-- tests
abbrev test_by_step : CodedTest → Option ℕ → Result Test Cause
test_by_step t None = Err (P TestOfNoEarlierStep)
test_by_step t (Some n) = Ok (test_with t (Some n))

abbrev test_by : Option ℕ → ℕ → List FlatStep → CodedTest → Option StepReference → Result Test Cause
test_by call k steps t None = Ok (test_with t None)
test_by call k steps t (Some reference) = test_by_step t (earlier_step call reference k steps)

test_step : (t : CodedTest) (found : Option ℕ) → OtherErr (test_by_step t found)
test_step t None = refl
test_step t (Some n) = tt

test_other : (call : Option ℕ) (k : ℕ) (steps : List FlatStep) (t : CodedTest) (reference : Option StepReference) → OtherErr (test_by call k steps t reference)
test_other call k steps t None = tt
test_other call k steps t (Some reference) = test_step t (earlier_step call reference k steps)

tests_other : (call : Option ℕ) (k : ℕ) (steps : List FlatStep) (tests : List CodedTest) → OtherErr (tests_of call k steps tests)
tests_other call k steps tests = all_other (map (test_of call k steps) tests) (map_other (test_of call k steps) tests (λ t. test_other call k steps t t.step))

-- references
abbrev in_step_by : ℕ → ℕ → Option ℕ → Result Target Cause
in_step_by k d None = Err (P ReferenceToNothing)
in_step_by k d (Some n) = if nat_lt n d then Ok (record { step = k; dd = n }) else Err (P ForwardReference)

abbrev in_earlier_by : Bool → Option Target → Result Target Cause
in_earlier_by forward None = Err (missing forward)
in_earlier_by forward (Some t) = Ok t

forward_by : (t : Bool) (target : Target) → OtherErr (let r : Result Target Cause = if t then Ok target else Err (P ForwardReference) in r)
forward_by true target = tt
forward_by false target = refl

in_step_other : (k d : ℕ) (o : Option ℕ) → OtherErr (in_step_by k d o)
in_step_other k d None = refl
in_step_other k d (Some n) = forward_by (nat_lt n d) (record { step = k; dd = n })

missing_other : (forward : Bool) → Other (missing forward)
missing_other true = refl
missing_other false = refl

in_earlier_other : (forward : Bool) (o : Option Target) → OtherErr (in_earlier_by forward o)
in_earlier_other forward None = missing_other forward
in_earlier_other forward (Some t) = tt

target_other : (call : Option ℕ) (k d : ℕ) (steps : List FlatStep) (reference : DdReference) → OtherErr (target_of call k d steps reference)
target_other call k d steps (dd_reference.Dd n) = in_step_other k d (dd_position n (dds_of steps k))
target_other call k d steps (dd_reference.OfStep s n) =
    in_earlier_other (looks_forward call (step_reference.Step s) n k steps) (earlier_dd call (step_reference.Step s) n k steps)
target_other call k d steps (dd_reference.OfProcedureStep s p n) =
    in_earlier_other (looks_forward call (step_reference.ProcedureStep s p) n k steps) (earlier_dd call (step_reference.ProcedureStep s p) n k steps)

abbrev OtherLed : Led → Type 0
OtherLed (ToSet t p) = Unit {0}
OtherLed ToDummy = Unit {0}
OtherLed (Nowhere c) = Other c

abbrev led_from : List (List DdKind) → Result Target Cause → Led
led_from planned (Err fault) = Nowhere fault
led_from planned (Ok t) = led_by t (kind_at planned t)

led_kind : (t : Target) (o : Option DdKind) → OtherLed (led_by t o)
led_kind t None = refl
led_kind t (Some (kind.Set p)) = tt
led_kind t (Some kind.Dummy) = tt
led_kind t (Some (kind.Sysout class)) = refl
led_kind t (Some (kind.Cards cards)) = refl

led_target : (planned : List (List DdKind)) (r : Result Target Cause) → OtherErr r → OtherLed (led_from planned r)
led_target planned (Err c) one = one
led_target planned (Ok t) one = led_kind t (kind_at planned t)

led_other : (at : Spot) (reference : DdReference) → OtherLed (led at reference)
led_other at reference =
    led_target at.planned (target_of at.call at.step at.dd at.steps reference) (target_other at.call at.step at.dd at.steps reference)

led_faults : (l : Led) → OtherLed l → Others (faults_of l)
led_faults (ToSet t p) one = tt
led_faults ToDummy one = tt
led_faults (Nowhere c) one = (one, tt)

all_led : (at : Spot) (references : List DdReference) → Others (flat_map (λ reference. faults_of (led at reference)) references)
all_led at [] = tt
all_led at (reference ∷ references) =
    both_others (faults_of (led at reference)) (flat_map (λ reference. faults_of (led at reference)) references)
    (led_faults (led at reference) (led_other at reference)) (all_led at references)

-- a DD
naming_led : (l : Led) → OtherLed l → Others (naming_faults (naming_by l))
naming_led (ToSet t p) one = tt
naming_led ToDummy one = tt
naming_led (Nowhere c) one = (one, tt)

naming_name : (at : Spot) (n : SetName) → Others (naming_faults (naming_of at n))
naming_name at name.Null = tt
naming_name at (name.Of key) = tt
naming_name at (name.OfDd reference) = naming_led (led at reference) (led_other at reference)

naming_other : (at : Spot) (coded : Coded SetName) → Others (naming_faults (naming at coded))
naming_other at NotGiven = tt
naming_other at Nullified = tt
naming_other at (Value n) = naming_name at n

dummy_other : (for_set : Bool) (l : Led) → OtherLed l → Others (dummy_faults for_set l)
dummy_other for_set (ToSet t p) one = tt
dummy_other for_set ToDummy one = when_other for_set (P ReferenceToNothing) refl
dummy_other for_set (Nowhere c) one = (one, tt)

volume_other : (for_set : Bool) (at : Spot) (coded : Coded VolumeName) → Others (volume_faults for_set at coded)
volume_other for_set at NotGiven = tt
volume_other for_set at Nullified = tt
volume_other for_set at (Value coded_volume.Any) = tt
volume_other for_set at (Value (coded_volume.Serial serial)) = tt
volume_other for_set at (Value (coded_volume.OfName n)) = tt
volume_other for_set at (Value (coded_volume.OfDd reference)) = dummy_other for_set (led at reference) (led_other at reference)

uncataloged_other : (o : Option Key) (d : Disposition) → Others (uncataloged_faults o d)
uncataloged_other None d = tt
uncataloged_other (Some key) d = when_other _ (P ExcludeOneAnother) refl

kind_other : (at : Spot) (dd : DdCard) → Others (kind_of at dd).faults
kind_other at dd =
    both_others _ _
    (both_others _ _
    (both_others _ _ (naming_other at dd.set_name) (volume_other (is_some (key_of (own_kind dd) (naming at dd.set_name))) at dd.volume))
    (all_led at (references_of dd.control_blocks)))
    (uncataloged_other (key_of (own_kind dd) (naming at dd.set_name)) (disposition_of dd.disposition))

kinds_other : (steps : List FlatStep) (call : Option ℕ) (k : ℕ) (planned : List (List DdKind)) (dds : List DdCard) (here : List DdKind) →
    OtherErr (kinds_from steps call k planned here dds)
kinds_other steps call k planned [] here = tt
kinds_other steps call k planned (dd ∷ dds) here =
    let it = kind_of (spot steps call k planned here) dd in
    fault_other (told it.faults) (kinds_from steps call k planned (here ++ it.value ∷ []) dds)
    (told_other it.faults (kind_other (spot steps call k planned here) dd)) (kinds_other steps call k planned dds (here ++ it.value ∷ []))

-- a step, and all
step_other : (steps : List FlatStep) (k : ℕ) (planned : List (List DdKind)) (stands s : FlatStep) → OtherErr (step_of steps k planned stands s)
step_other steps k planned stands s =
    then_other (tests_of s.call k steps s.condition.tests.items) _ (tests_other s.call k steps s.condition.tests.items) (λ tests.
    refused_other (nat_lt most_dd_names (count_by (λ dd. is_given dd.dd_name) stands.dds)) (P TooManyDdNames) _ refl
    (refused_other (nat_lt most_dds (length s.dds)) (P TooManyDds) _ refl
    (then_other (kinds_from steps s.call k planned [] s.dds) _ (kinds_other steps s.call k planned s.dds []) (λ kinds. tt))))

steps_other : (steps : List FlatStep) (stand left : List FlatStep) (k : ℕ) (done : List StepPlan) → OtherErr (steps_from steps k done stand left)
steps_other steps [] left k done = tt
steps_other steps (s ∷ stand) [] k done = tt
steps_other steps (stands ∷ stand) (s ∷ left) k done =
    then_other (step_of steps k (map kinds_in done) stands s) _ (step_other steps k (map kinds_in done) stands s)
    (λ plan. steps_other steps stand left (k + 1) (done ++ plan ∷ []))

-- units
abbrev unit_by : DdPlan → Option ℕ → Result DdPlan Cause
unit_by dd None = Err (P UnknownUnit)
unit_by dd (Some n) = Ok (record dd { kind = with_units n dd.kind })

unit_found : (dd : DdPlan) (o : Option ℕ) → OtherErr (unit_by dd o)
unit_found dd None = refl
unit_found dd (Some n) = tt

unit_other : (units : List (List ℕ)) (coded : Coded (List ℕ)) (dd : DdPlan) → OtherErr (unit_of units coded dd)
unit_other units (Value unit) dd = unit_found dd (unit_number units unit)
unit_other units NotGiven dd = tt
unit_other units Nullified dd = tt

dds_other : (units : List (List ℕ)) (dds : List DdCard) (plans : List DdPlan) → AllOther (units_of_dds units dds plans)
dds_other units [] plans = tt
dds_other units (dd ∷ dds) [] = tt
dds_other units (dd ∷ dds) (plan ∷ plans) = (unit_other units dd.unit plan, dds_other units dds plans)

units_other : (units : List (List ℕ)) (steps : List FlatStep) (plans : List StepPlan) → AllOther (units_of_steps units steps plans)
units_other units [] plans = tt
units_other units (s ∷ steps) [] = tt
units_other units (s ∷ steps) (plan ∷ plans) = (
  then_other (all_of (units_of_dds units s.dds plan.dds)) _ (all_other (units_of_dds units s.dds plan.dds) (dds_other units s.dds plan.dds)) (λ dds. tt),
  units_other units steps plans,
)

plan_other : (units : List (List ℕ)) (job : JobCard) (stand left : List FlatStep) → OtherErr (plan_by units job stand left)
plan_other units job stand left =
    then_other (steps_from left 1 [] stand left) _ (steps_other left stand left 1 []) (λ steps.
    refused_other (nat_lt most_names (length (names_of (job_with job steps)))) (P TooManyNames) _ refl
    (then_other (all_of (units_of_steps units left steps)) _ (all_other (units_of_steps units left steps) (units_other units left steps)) (λ placed. tt)))

by_other : (r : Result JobPlan Cause) → OtherErr r → false ≡ is_refused_in 1 r
by_other (Ok plan) one = refl
by_other (Err c) one = sym one

by_number : (t : Bool) (r : Result JobPlan Cause) → OtherErr r → t ≡ is_refused_in 1 (refused_if t (P TooManySteps) r)
by_number true r one = refl
by_number false r one = by_other r one

-- a deck whose steps are counted
pub counted_by : (units : List (List ℕ)) (job : JobCard) (flat : Result (List FlatStep) Cause) (over : Bool) → is_over most_steps flat ≡ Ok over →
    over ≡ by_steps flat (λ steps. is_refused_in 1 (plan_of units job steps))
counted_by units job (Ok steps) over is =
    (let same : over ≡ nat_lt most_steps (length steps) = cc in same)
    ∙ by_number (nat_lt most_steps (length steps)) (plan_by units job steps (map with_dds_left steps))
    (plan_other units job steps (map with_dds_left steps))
counted_by units job (Err c) over is = absurd cc
