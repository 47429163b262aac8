-- The kind of a DD, as it is found from the DDs that are planned.
use Rattle.std.specs.Prelude.{◌≡◌, ℕ, ◌≤◌, Bool, true, false, List, [], ◌∷◌, ◌++◌, length, map, All, Option, Some, None, is_some, Result, Ok, Err}
use Rattle.std.specs.List.{flat_map}
use Rattle.jname_core.specs.declared.key.Key.{Key}
use Rattle.jcl_plan.specs.declared.fault.Cause.{Cause}
use Rattle.jcl_plan.specs.declared.plan.DdKind.{DdKind}
use Rattle.jcl_plan.specs.declared.plan.DdKind.TheVariants as kind
use Rattle.jcl_plan.specs.declared.plan.DdPlan.{DdPlan}
use Rattle.jcl_plan.specs.declared.plan.VolumePlan.{VolumePlan}
use Rattle.jcl_plan.specs.declared.plan.VolumePlan.TheVariants as volume
use Rattle.operand_core.specs.Faults.{earlier, told}
use Rattle.value_core.specs.Reads.{answer}
use Rattle.jcl_cards.specs.declared.coded.Coded.TheVariants.{NotGiven}
use Rattle.jcl_dds.specs.declared.dd.DdCard.{DdCard}
use Rattle.jcl_dds.specs.declared.dd.Word.TheVariants as positional_word
use Rattle.jcl_procs.specs.declared.step.FlatStep.{FlatStep}
use Rattle.jcl_procs.specs.Expansions.{and_then}
use Rattle.jcl_refs.specs.declared.kinds.Source.{Source}
use Rattle.jcl_refs.specs.declared.kinds.Spot as code
use Rattle.jcl_refs.specs.Plans.{Led, MakesDummy, Names, NamesNothing, Naming, Nowhere, Own, OwnCards, OwnDummy, OwnSet, OwnSysout, Spot, ToDummy, ToSet}
use Rattle.jcl_refs.specs.Plans.{disposition_of, faults_of, kind_of, kinds_in, led, most_dds, most_steps, set_with, spot, uncataloged_faults, volume_faults, with_kind}
use Rattle.jcl_refs.specs.LaterDds.{references_of}

-- what DDs are
abbrev pub kinds_here : List DdPlan → List DdKind
kinds_here dds = map (λ dd. dd.kind) dds

-- where a DD stands
abbrev pub spot_of : code.Spot → Spot
spot_of at = record {
  steps = at.steps.now;
  planned = with_kind (map kinds_in at.done.now) (kinds_here at.here.now);
  call = at.call;
  step = at.step;
  dd = at.dd;
}

-- few enough that their numbers are kept
abbrev pub FewPlanned : code.Spot → Type 0
FewPlanned at = (length at.done.now ≤ most_steps) × All (λ s. length s.dds ≤ most_dds) at.done.now × (length at.here.now ≤ most_dds)

-- the set that a reference leads to, none where it leads to a DUMMY
abbrev pub source_of : Led → Result (Option Source) Cause
source_of (ToSet t p) = Ok (Some (record { step = t.step; dd = t.dd; key = p.key }))
source_of ToDummy = Ok None
source_of (Nowhere fault) = Err fault

-- the key that DSNAME names, none where it makes a DUMMY
abbrev pub named_by : Naming → Result (Option Key) Cause
named_by (Names key) = Ok (Some key)
named_by MakesDummy = Ok None
named_by (NamesNothing fault) = Err fault

-- the way to its volume
abbrev pub volume_by_source : Option Source → VolumePlan
volume_by_source None = volume.NotCoded
volume_by_source (Some source) = volume.OfDd source.step source.dd

-- a DD that is for no set
abbrev pub setless : Own → DdKind
setless OwnSet = kind.Dummy
setless OwnDummy = kind.Dummy
setless (OwnSysout class) = kind.Sysout class
setless (OwnCards cards) = kind.Cards cards

abbrev pub is_set : Own → Bool
is_set OwnSet = true
is_set OwnDummy = false
is_set (OwnSysout class) = false
is_set (OwnCards cards) = false

-- the key of a DD that is for a set
abbrev pub key_by : Bool → Result (Option Key) Cause → Option Key
key_by false named = None
key_by true (Ok key) = key
key_by true (Err fault) = None

abbrev pub fault_named : Result (Option Key) Cause → Option Cause
fault_named (Ok key) = None
fault_named (Err fault) = Some fault

-- it says DUMMY, and nothing that names a set or leads to another DD
pub record IsDummyAlone (dd : DdCard) : Type 0 where
  pub word : dd.word ≡ Some positional_word.Dummy
  pub set_name : dd.set_name ≡ NotGiven
  pub volume : dd.volume ≡ NotGiven
  pub control_blocks : dd.control_blocks ≡ NotGiven

-- the fault that is told of a DD, by what DSNAME names and the key of its set
abbrev pub fault_with : Spot → DdCard → Result (Option Key) Cause → Option Key → Option Cause
fault_with at dd named key =
    earlier (earlier (earlier (fault_named named) (told (volume_faults (is_some key) at dd.volume)))
    (told (flat_map (λ reference. faults_of (led at reference)) (references_of dd.control_blocks))))
    (told (uncataloged_faults key (disposition_of dd.disposition)))

-- a DD, by the key of its set
abbrev pub kind_by : Spot → DdCard → Own → Option Key → DdKind
kind_by at dd own None = setless own
kind_by at dd own (Some key) = kind.Set (set_with at dd key)

-- a DD with its name
abbrev pub plan_with : DdCard → DdKind → DdPlan
plan_with dd kind = record { name = dd.name; kind = kind }

abbrev pub plan_of : Spot → DdCard → Result DdPlan Cause
plan_of at dd = and_then (answer (kind_of at dd)) (λ kind. Ok (plan_with dd kind))

-- those that are planned, and those that are left
abbrev pub plans_from : List FlatStep → Option ℕ → ℕ → List (List DdKind) → List DdPlan → List DdCard → Result (List DdPlan) Cause
plans_from steps call k planned here [] = Ok here
plans_from steps call k planned here (dd ∷ dds) =
    and_then (plan_of (spot steps call k planned (kinds_here here)) dd) (λ plan. plans_from steps call k planned (here ++ plan ∷ []) dds)
