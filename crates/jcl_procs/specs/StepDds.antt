-- The DDs of one step as an override leaves them.
use Rattle.std.specs.Prelude.{ℕ, Bool, false, not, ◌&&◌, is_some, ◌+◌, ◌<◌, ◌≤◌, List, [], ◌∷◌, ◌++◌, length, slice_get, Option, Some, None, is_none, Result, Ok, Err, if◌then◌else◌}
use Rattle.std.specs.List.{position}
use Rattle.jcl_plan.specs.declared.fault.Cause.{Cause}
use Rattle.operand_core.specs.Faults.{or_fault, told}
use Rattle.jcl_dds.specs.declared.dd.DdCard.{DdCard}
use Rattle.jcl_dds.specs.Merging.{by_itself, merged}
use Rattle.jcl_procs.specs.declared.overriding.Members.{Members}
use Rattle.jcl_procs.specs.declared.overriding.Place.{Place}
use Rattle.jcl_procs.specs.declared.step.FlatStep.{FlatStep}
use Rattle.jcl_procs.specs.Overrides.{dds_at, is_of_name, step_at, with_dd, with_dd_between, with_dds}

-- one merged with its override
abbrev pub merged_at : List DdCard → ℕ → DdCard → DdCard → Result Members Cause
merged_at dds n there dd =
    or_fault (told (merged there dd).faults) (record { dds = with_dd dds n (merged there dd).value; member = n + 1 })

abbrev pub added : List DdCard → DdCard → Members
added dds dd = record { dds = dds ++ by_itself dd ∷ []; member = length dds + 1 }

-- by an override with a name
abbrev pub merged_there : List DdCard → DdCard → ℕ → Option DdCard → Result Members Cause
merged_there dds dd n None = Ok (added dds dd)
merged_there dds dd n (Some there) = merged_at dds n there dd

abbrev pub by_position : List DdCard → DdCard → Option ℕ → Result Members Cause
by_position dds dd None = Ok (added dds dd)
by_position dds dd (Some n) = merged_there dds dd n (slice_get dds n)

abbrev pub with_named : List DdCard → DdCard → Result Members Cause
with_named dds dd = by_position dds dd (position (is_of_name dd.name) dds)

-- by one without
abbrev pub inserted : List DdCard → ℕ → DdCard → Members
inserted dds n dd = record { dds = with_dd_between dds n (by_itself dd); member = n + 1 }

abbrev pub by_next : List DdCard → ℕ → DdCard → Option DdCard → Result Members Cause
by_next dds n dd None = Ok (inserted dds n dd)
by_next dds n dd (Some there) = if is_none there.name then merged_at dds n there dd else Ok (inserted dds n dd)

abbrev pub with_member : List DdCard → ℕ → DdCard → Result Members Cause
with_member dds n dd = by_next dds n dd (slice_get dds n)

-- whether it continues a concatenation
abbrev pub continues : Option DdCard → Bool
continues None = false
continues (Some there) = is_none there.name

-- whether it overrides a DD of a step that it names
abbrev pub names_step : DdCard → Bool
names_step dd = not (is_none dd.name) && is_some dd.qualifier

-- the steps with the DDs of one
abbrev pub placed : List FlatStep → ℕ → Members → Place
placed steps at m = record { steps = with_dds steps at m.dds; at = at; member = m.member }

-- the place is in a step, and the member among its DDs or behind the last
abbrev pub AreMembers : Members → Type 0
AreMembers m = m.member ≤ length m.dds

abbrev pub IsPlace : Place → Type 0
IsPlace place = (place.at < length place.steps) × (place.member ≤ length (dds_at place.steps place.at))

-- the fault of what is refused
abbrev pub fault_of : {A : Type 0} → Result A Cause → Option Cause
fault_of (Ok a) = None
fault_of (Err fault) = Some fault

-- that of the first override of a call
abbrev pub named_fault : List FlatStep → DdCard → Result ℕ Cause → Option Cause
named_fault steps dd (Err fault) = Some fault
named_fault steps dd (Ok n) = fault_of (with_named (dds_at steps n) dd)

abbrev pub first_fault : List FlatStep → DdCard → Option Cause
first_fault steps dd =
    if is_none dd.name then fault_of (with_member (dds_at steps 0) 0 dd) else named_fault steps dd (step_at steps 0 dd.qualifier)
