-- The plan of a job, or the first refusal: the number of steps; step by step its tests, its DDNAMEs, the number of its DDs, and DD by DD what it refers
-- to; the names that the job holds; and the names of units. (This profile)
use Rattle.std.specs.Prelude.{ℕ, ◌+◌, ◌-◌, Bool, true, false, ◌&&◌, ◌||◌, nat_lt, List, [], ◌∷◌, ◌++◌, count_by, length, map, slice_get, Option, Some, None, is_some, Result, Ok, Err}
use Rattle.std.specs.List.{flat_map, position}
use Rattle.std.specs.Str.{bytes_eq}
use Rattle.jname_core.specs.declared.key.Key.{Key}
use Rattle.jname_core.specs.declared.key.Key.TheVariants.{Unnamed}
use Rattle.jcl_plan.specs.declared.fault.Cause.{Cause}
use Rattle.jcl_plan.specs.declared.fault.Cause.TheVariants.{P}
use Rattle.jcl_plan.specs.declared.fault.StatementFault.TheVariants.{ExcludeOneAnother, ReferenceToNothing, TestOfNoEarlierStep, TooManyDdNames, TooManyDds, TooManyNames, TooManySteps, UnknownUnit}
use Rattle.jcl_plan.specs.declared.plan.ConditionalWord.{ConditionalWord}
use Rattle.jcl_plan.specs.declared.plan.ConditionalWord.TheVariants as conditional
use Rattle.jcl_plan.specs.declared.plan.DdKind.{DdKind}
use Rattle.jcl_plan.specs.declared.plan.DdKind.TheVariants as kind
use Rattle.jcl_plan.specs.declared.plan.DdPlan.{DdPlan}
use Rattle.jcl_plan.specs.declared.plan.Expiry.{Expiry}
use Rattle.jcl_plan.specs.declared.plan.Expiry.TheVariants as expiry
use Rattle.jcl_plan.specs.declared.plan.JobPlan.{JobPlan}
use Rattle.jcl_plan.specs.declared.plan.SetPlan.{SetPlan}
use Rattle.jcl_plan.specs.declared.plan.Space.{Space}
use Rattle.jcl_plan.specs.declared.plan.Status.TheVariants as status
use Rattle.jcl_plan.specs.declared.plan.StepPlan.{StepPlan}
use Rattle.jcl_plan.specs.declared.plan.Test.{Test}
use Rattle.jcl_plan.specs.declared.plan.VolumePlan.{VolumePlan}
use Rattle.jcl_plan.specs.declared.plan.VolumePlan.TheVariants as volume
use Rattle.jcl_plan.specs.declared.plan.Word.{Word}
use Rattle.jcl_plan.specs.declared.plan.Word.TheVariants as word
use Rattle.operand_core.specs.Faults.{told, when}
use Rattle.list_values.specs.declared.condition.CodedTest.{CodedTest}
use Rattle.value_core.specs.declared.reference.DdReference.{DdReference}
use Rattle.value_core.specs.declared.reference.StepReference.{StepReference}
use Rattle.value_core.specs.declared.set.Disposition.{Disposition}
use Rattle.value_core.specs.declared.set.SetName.{SetName}
use Rattle.value_core.specs.declared.set.SetName.TheVariants as name
use Rattle.value_core.specs.declared.set.VolumeName.{VolumeName}
use Rattle.value_core.specs.declared.set.VolumeName.TheVariants as coded_volume
use Rattle.value_core.specs.Reads.{Read}
use Rattle.jcl_cards.specs.declared.coded.Coded.{Coded}
use Rattle.jcl_cards.specs.declared.coded.Coded.TheVariants.{NotGiven, Nullified, Value}
use Rattle.jcl_cards.specs.declared.job.JobCard.{JobCard}
use Rattle.jcl_cards.specs.Keywords.{is_given}
use Rattle.jcl_dds.specs.declared.dd.DdCard.{DdCard}
use Rattle.jcl_dds.specs.declared.dd.Word as positional
use Rattle.jcl_dds.specs.declared.dd.Word.TheVariants as positional_word
use Rattle.jcl_procs.specs.declared.step.FlatStep.{FlatStep}
use Rattle.jcl_plan.specs.declared.plan.TheConstants.{MOST_DDS, MOST_NAMES, MOST_STEPS}
use Rattle.jcl_procs.specs.Expansions.{and_then}
use Rattle.jcl_meaning.specs.Names.{is_temporary, names_of}
use Rattle.jcl_refs.specs.declared.targets.Target.{Target}
use Rattle.jcl_refs.specs.LaterDds.{dds_left, references_of}
use Rattle.jcl_refs.specs.Targets.{earlier_step, target_of}

abbrev pub most_steps : ℕ
most_steps = MOST_STEPS

abbrev pub most_dds : ℕ
most_dds = MOST_DDS

abbrev pub most_dd_names : ℕ
most_dd_names = 5

abbrev pub most_names : ℕ
most_names = MOST_NAMES

-- a refusal, unless something does not hold
abbrev pub refused_if : {A : Type 0} → Bool → Cause → Result A Cause → Result A Cause
refused_if true fault next = Err fault
refused_if false fault next = next

abbrev pub by_fault : {A : Type 0} → Option Cause → Result A Cause → Result A Cause
by_fault None next = next
by_fault (Some fault) next = Err fault

-- the kinds of the DDs that are planned, step by step
abbrev pub kind_at : List (List DdKind) → Target → Option DdKind
kind_at planned t = in_step (slice_get planned (t.step - 1))
  where
    in_step : Option (List DdKind) → Option DdKind
    in_step None = None
    in_step (Some dds) = slice_get dds (t.dd - 1)

-- Where a DD stands: the DDs that are left of each step, the kinds of those that are planned, the call of its step, its step, and its place in it.
pub record Spot : Type 0 where
  pub steps : List FlatStep
  pub planned : List (List DdKind)
  pub call : Option ℕ
  pub step : ℕ
  pub dd : ℕ

-- what a reference leads to: a set or a DUMMY; to SYSOUT or cards none may lead
pub data Led : Type 0 where
  ToSet : Target → SetPlan → Led
  ToDummy : Led
  Nowhere : Cause → Led

abbrev pub led_by : Target → Option DdKind → Led
led_by t None = Nowhere (P ReferenceToNothing)
led_by t (Some (kind.Set p)) = ToSet t p
led_by t (Some kind.Dummy) = ToDummy
led_by t (Some (kind.Sysout class)) = Nowhere (P ReferenceToNothing)
led_by t (Some (kind.Cards cards)) = Nowhere (P ReferenceToNothing)

abbrev pub led : Spot → DdReference → Led
led at reference = by (target_of at.call at.step at.dd at.steps reference)
  where
    by : Result Target Cause → Led
    by (Err fault) = Nowhere fault
    by (Ok t) = led_by t (kind_at at.planned t)

abbrev pub faults_of : Led → List Cause
faults_of (ToSet t p) = []
faults_of ToDummy = []
faults_of (Nowhere fault) = fault ∷ []

-- DSNAME: the key of a set, none where a reference leads nowhere; or what makes the DD a DUMMY
pub data Naming : Type 0 where
  Names : Key → Naming
  MakesDummy : Naming
  NamesNothing : Cause → Naming

abbrev pub naming_by : Led → Naming
naming_by (ToSet t p) = Names p.key
naming_by ToDummy = MakesDummy
naming_by (Nowhere fault) = NamesNothing fault

abbrev pub naming_of : Spot → SetName → Naming
naming_of at name.Null = MakesDummy
naming_of at (name.Of key) = Names key
naming_of at (name.OfDd reference) = naming_by (led at reference)

abbrev pub naming : Spot → Coded SetName → Naming
naming at NotGiven = Names (Unnamed at.step at.dd)
naming at Nullified = Names (Unnamed at.step at.dd)
naming at (Value n) = naming_of at n

abbrev pub naming_faults : Naming → List Cause
naming_faults (Names key) = []
naming_faults MakesDummy = []
naming_faults (NamesNothing fault) = fault ∷ []

-- VOLUME: a reference to a DUMMY is one to nothing where the DD is for a set that has a name
abbrev pub volume_by : Led → VolumePlan
volume_by (ToSet t p) = volume.OfDd t.step t.dd
volume_by ToDummy = volume.NotCoded
volume_by (Nowhere fault) = volume.NotCoded

abbrev pub volume_of : Spot → VolumeName → VolumePlan
volume_of at coded_volume.Any = volume.NotCoded
volume_of at (coded_volume.Serial serial) = volume.Serial serial
volume_of at (coded_volume.OfName n) = volume.OfName n
volume_of at (coded_volume.OfDd reference) = volume_by (led at reference)

abbrev pub volume_plan : Spot → Coded VolumeName → VolumePlan
volume_plan at NotGiven = volume.NotCoded
volume_plan at Nullified = volume.NotCoded
volume_plan at (Value v) = volume_of at v

abbrev pub dummy_faults : Bool → Led → List Cause
dummy_faults for_set (ToSet t p) = []
dummy_faults for_set ToDummy = when for_set (P ReferenceToNothing)
dummy_faults for_set (Nowhere fault) = fault ∷ []

abbrev pub volume_faults : Bool → Spot → Coded VolumeName → List Cause
volume_faults for_set at (Value (coded_volume.OfDd reference)) = dummy_faults for_set (led at reference)
volume_faults for_set at other = []

-- the kind of a DD by itself
pub data Own : Type 0 where
  OwnSet : Own
  OwnDummy : Own
  OwnSysout : ℕ → Own
  OwnCards : List (List ℕ) → Own

abbrev pub by_class : Coded ℕ → Own
by_class NotGiven = OwnSet
by_class Nullified = OwnSet
by_class (Value class) = OwnSysout class

abbrev pub own_kind : DdCard → Own
own_kind dd = by_word dd.word
  where
    by_word : Option positional.Word → Own
    by_word None = by_class dd.sysout
    by_word (Some positional_word.Dummy) = OwnDummy
    by_word (Some (positional_word.Cards cards)) = OwnCards cards

-- the key of a DD that is for a set
abbrev pub key_of : Own → Naming → Option Key
key_of OwnSet (Names key) = Some key
key_of OwnSet MakesDummy = None
key_of OwnSet (NamesNothing fault) = None
key_of OwnDummy _ = None
key_of (OwnSysout class) _ = None
key_of (OwnCards cards) _ = None

-- UNCATLG on a temporary set
abbrev pub is_uncataloged : Option Word → Bool
is_uncataloged (Some word.Uncatlg) = true
is_uncataloged other = false

abbrev pub is_uncataloged_after_abend : Option ConditionalWord → Bool
is_uncataloged_after_abend (Some conditional.Uncatlg) = true
is_uncataloged_after_abend other = false

abbrev pub disposition_of : Coded Disposition → Disposition
disposition_of (Value d) = d
disposition_of other = record { status = status.New; normal = None; conditional = None }

abbrev pub uncataloged_faults : Option Key → Disposition → List Cause
uncataloged_faults None d = []
uncataloged_faults (Some key) d =
    when (is_temporary key && (is_uncataloged d.normal || is_uncataloged_after_abend d.conditional)) (P ExcludeOneAnother)

abbrev pub space_of : Coded Space → Option Space
space_of (Value s) = Some s
space_of other = None

abbrev pub expiry_of : Coded Expiry → Expiry
expiry_of (Value e) = e
expiry_of other = expiry.NotCoded

abbrev pub set_with : Spot → DdCard → Key → SetPlan
set_with at dd key = record {
  key = key;
  status = (disposition_of dd.disposition).status;
  normal = (disposition_of dd.disposition).normal;
  conditional = (disposition_of dd.disposition).conditional;
  volume = volume_plan at dd.volume;
  units = None;
  space = space_of dd.space;
  expiry = expiry_of dd.label;
}

abbrev pub kind_with : Spot → DdCard → Own → Naming → DdKind
kind_with at dd OwnSet (Names key) = kind.Set (set_with at dd key)
kind_with at dd OwnSet MakesDummy = kind.Dummy
kind_with at dd OwnSet (NamesNothing fault) = kind.Dummy
kind_with at dd OwnDummy _ = kind.Dummy
kind_with at dd (OwnSysout class) _ = kind.Sysout class
kind_with at dd (OwnCards cards) _ = kind.Cards cards

-- a DD at its place
abbrev pub kind_of : Spot → DdCard → Read DdKind
kind_of at dd = record {
  value = kind_with at dd (own_kind dd) (naming at dd.set_name);
  faults = naming_faults (naming at dd.set_name)
      ++ volume_faults (is_some (key_of (own_kind dd) (naming at dd.set_name))) at dd.volume
      ++ flat_map (λ reference. faults_of (led at reference)) (references_of dd.control_blocks)
      ++ uncataloged_faults (key_of (own_kind dd) (naming at dd.set_name)) (disposition_of dd.disposition);
}

-- the tests of a step: each names an earlier step, or none
abbrev pub test_with : CodedTest → Option ℕ → Test
test_with t step = record { code = t.code; operator = t.operator; step = step }

abbrev pub test_of : Option ℕ → ℕ → List FlatStep → CodedTest → Result Test Cause
test_of call k steps t = by_reference t.step
  where
    by_step : Option ℕ → Result Test Cause
    by_step None = Err (P TestOfNoEarlierStep)
    by_step (Some n) = Ok (test_with t (Some n))

    by_reference : Option StepReference → Result Test Cause
    by_reference None = Ok (test_with t None)
    by_reference (Some reference) = by_step (earlier_step call reference k steps)

abbrev pub onto : {A : Type 0} → A → Result (List A) Cause → Result (List A) Cause
onto a (Err fault) = Err fault
onto a (Ok more) = Ok (a ∷ more)

abbrev pub all_of : {A : Type 0} → List (Result A Cause) → Result (List A) Cause
all_of [] = Ok []
all_of (Err fault ∷ rs) = Err fault
all_of (Ok a ∷ rs) = onto a (all_of rs)

abbrev pub tests_of : Option ℕ → ℕ → List FlatStep → List CodedTest → Result (List Test) Cause
tests_of call k steps tests = all_of (map (test_of call k steps) tests)

-- the DDs of the k-th step, one after another; those before it are planned
abbrev pub with_kind : List (List DdKind) → List DdKind → List (List DdKind)
with_kind planned here = planned ++ here ∷ []

abbrev pub spot : List FlatStep → Option ℕ → ℕ → List (List DdKind) → List DdKind → Spot
spot steps call k planned here = record { steps = steps; planned = with_kind planned here; call = call; step = k; dd = length here + 1 }

abbrev pub kinds_from : List FlatStep → Option ℕ → ℕ → List (List DdKind) → List DdKind → List DdCard → Result (List DdKind) Cause
kinds_from steps call k planned here [] = Ok here
kinds_from steps call k planned here (dd ∷ dds) = by_fault (told (kind_of (spot steps call k planned here) dd).faults)
    (kinds_from steps call k planned (here ++ (kind_of (spot steps call k planned here) dd).value ∷ []) dds)

abbrev pub dds_with : List DdCard → List DdKind → List DdPlan
dds_with [] kinds = []
dds_with (dd ∷ dds) [] = []
dds_with (dd ∷ dds) (kind ∷ kinds) = record { name = dd.name; kind = kind } ∷ dds_with dds kinds

abbrev pub step_with : FlatStep → List Test → List DdPlan → StepPlan
step_with s tests dds = record {
  name = s.name;
  procedure_step = s.procedure_step;
  program = s.program;
  after_abend = s.condition.after_abend;
  tests = record { items = tests };
  dds = dds;
}

-- the k-th step: its DDs as they stand, and those that are left
abbrev pub step_of : List FlatStep → ℕ → List (List DdKind) → FlatStep → FlatStep → Result StepPlan Cause
step_of steps k planned stands s =
    and_then (tests_of s.call k steps s.condition.tests.items) (λ tests.
    refused_if (nat_lt most_dd_names (count_by (λ dd. is_given dd.dd_name) stands.dds)) (P TooManyDdNames)
    (refused_if (nat_lt most_dds (length s.dds)) (P TooManyDds)
    (and_then (kinds_from steps s.call k planned [] s.dds) (λ kinds. Ok (step_with s tests (dds_with s.dds kinds))))))

abbrev pub kinds_in : StepPlan → List DdKind
kinds_in s = map (λ dd. dd.kind) s.dds

abbrev pub steps_from : List FlatStep → ℕ → List StepPlan → List FlatStep → List FlatStep → Result (List StepPlan) Cause
steps_from steps k done [] left = Ok done
steps_from steps k done (s ∷ stand) [] = Ok done
steps_from steps k done (stands ∷ stand) (s ∷ left) =
    and_then (step_of steps k (map kinds_in done) stands s) (λ plan. steps_from steps (k + 1) (done ++ plan ∷ []) stand left)

abbrev pub with_dds_left : FlatStep → FlatStep
with_dds_left s = record s { dds = dds_left s.dds }

-- units: each name is one of the configuration, and a set is placed on the volumes of its
abbrev pub unit_number : List (List ℕ) → List ℕ → Option ℕ
unit_number units unit = by (position (bytes_eq unit) units)
  where
    by : Option ℕ → Option ℕ
    by None = None
    by (Some n) = Some (n + 1)

abbrev pub with_units : ℕ → DdKind → DdKind
with_units n (kind.Set p) = kind.Set (record p { units = Some n })
with_units n kind.Dummy = kind.Dummy
with_units n (kind.Sysout class) = kind.Sysout class
with_units n (kind.Cards cards) = kind.Cards cards

abbrev pub unit_of : List (List ℕ) → Coded (List ℕ) → DdPlan → Result DdPlan Cause
unit_of units (Value unit) dd = by (unit_number units unit)
  where
    by : Option ℕ → Result DdPlan Cause
    by None = Err (P UnknownUnit)
    by (Some n) = Ok (record dd { kind = with_units n dd.kind })
unit_of units NotGiven dd = Ok dd
unit_of units Nullified dd = Ok dd

abbrev pub units_of_dds : List (List ℕ) → List DdCard → List DdPlan → List (Result DdPlan Cause)
units_of_dds units [] plans = []
units_of_dds units (dd ∷ dds) [] = []
units_of_dds units (dd ∷ dds) (plan ∷ plans) = unit_of units dd.unit plan ∷ units_of_dds units dds plans

abbrev pub units_of_step : List (List ℕ) → FlatStep → StepPlan → Result StepPlan Cause
units_of_step units s plan = and_then (all_of (units_of_dds units s.dds plan.dds)) (λ dds. Ok (record plan { dds = dds }))

abbrev pub units_of_steps : List (List ℕ) → List FlatStep → List StepPlan → List (Result StepPlan Cause)
units_of_steps units [] plans = []
units_of_steps units (s ∷ steps) [] = []
units_of_steps units (s ∷ steps) (plan ∷ plans) = units_of_step units s plan ∷ units_of_steps units steps plans

-- the job
abbrev pub job_test : CodedTest → Test
job_test t = test_with t None

abbrev pub job_with : JobCard → List StepPlan → JobPlan
job_with job steps = record {
  name = job.name;
  class = job.class;
  priority = job.priority;
  message_class = job.message_class;
  tests = record { items = map job_test job.tests.items };
  steps = steps;
}

abbrev pub plan_by : List (List ℕ) → JobCard → List FlatStep → List FlatStep → Result JobPlan Cause
plan_by units job stand left =
    and_then (steps_from left 1 [] stand left) (λ steps.
    refused_if (nat_lt most_names (length (names_of (job_with job steps)))) (P TooManyNames)
    (and_then (all_of (units_of_steps units left steps)) (λ placed. Ok (job_with job placed))))

-- the plan of a job whose steps are these, with these names of units in the order of the configuration
abbrev pub plan_of : List (List ℕ) → JobCard → List FlatStep → Result JobPlan Cause
plan_of units job steps = refused_if (nat_lt most_steps (length steps)) (P TooManySteps) (plan_by units job steps (map with_dds_left steps))
