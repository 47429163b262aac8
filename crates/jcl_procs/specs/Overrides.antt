-- Overrides: COND and DDs behind an EXEC statement that calls a procedure. (GC28-6704, COND parameter; "Overriding, adding, and nullifying
-- parameters on DD statements")
use Rattle.std.specs.Prelude.{ℕ, zero, suc, ◌+◌, Bool, true, false, List, [], ◌∷◌, ◌++◌, drop, length, map, slice_get, Option, Some, None, is_none, Result, Ok, Err, if◌then◌else◌}
use Rattle.std.specs.List.{list_all, list_any, position}
use Rattle.std.specs.Str.{bytes_eq}
use Rattle.jcl_plan.specs.declared.fault.Cause.{Cause}
use Rattle.jcl_plan.specs.declared.fault.Cause.TheVariants.{P}
use Rattle.jcl_plan.specs.declared.fault.StatementFault.TheVariants.{NoSuchProcedureStep, OverrideOutOfOrder}
use Rattle.operand_core.specs.Faults.{or_fault, told}
use Rattle.list_values.specs.declared.condition.Condition.{Condition}
use Rattle.jcl_cards.specs.declared.exec.ExecCard.{ExecCard}
use Rattle.jcl_cards.specs.declared.exec.StepCondition.{StepCondition}
use Rattle.jcl_dds.specs.declared.dd.DdCard.{DdCard}
use Rattle.jcl_dds.specs.Merging.{by_itself, merged}
use Rattle.jcl_procs.specs.declared.overriding.Place.{Place}
use Rattle.jcl_procs.specs.declared.step.FlatStep.{FlatStep}

-- the steps of a procedure by their names
abbrev pub is_named : Option (List ℕ) → List ℕ → Bool
is_named None name = false
is_named (Some own) name = bytes_eq own name

abbrev pub is_step : List ℕ → FlatStep → Bool
is_step name step = is_named step.procedure_step name

-- COND without a step stands in the place of that of every step
abbrev pub with_this : Condition → FlatStep → FlatStep
with_this c step = record step { condition = c }

abbrev pub with_condition : Option Condition → List FlatStep → List FlatStep
with_condition None steps = steps
with_condition (Some c) steps = map (with_this c) steps

-- COND of one step in the place of that of the first step of the name
abbrev pub with_step_condition : List FlatStep → StepCondition → List FlatStep
with_step_condition [] c = []
with_step_condition (step ∷ steps) c =
    if is_step c.step step then record step { condition = c.condition } ∷ steps else step ∷ with_step_condition steps c

abbrev pub with_step_conditions : List FlatStep → List StepCondition → List FlatStep
with_step_conditions steps [] = steps
with_step_conditions steps (c ∷ conditions) = with_step_conditions (with_step_condition steps c) conditions

-- each step that a keyword names is one of the procedure
abbrev pub names_steps : List FlatStep → List (List ℕ) → Bool
names_steps steps names = list_all (λ name. list_any (is_step name) steps) names

abbrev pub conditions_overridden : List FlatStep → ExecCard → Result (List FlatStep) Cause
conditions_overridden steps exec =
    if names_steps steps exec.named_steps then Ok (with_step_conditions (with_condition exec.condition steps) exec.step_conditions)
    else Err (P NoSuchProcedureStep)

-- the first step of a name at or behind the one reached; one that stands before it alone is out of order
abbrev pub step_by_position : ℕ → Option ℕ → Bool → Result ℕ Cause
step_by_position at (Some n) there = Ok (at + n)
step_by_position at None true = Err (P OverrideOutOfOrder)
step_by_position at None false = Err (P NoSuchProcedureStep)

abbrev pub step_at : List FlatStep → ℕ → Option (List ℕ) → Result ℕ Cause
step_at steps at None = Ok at
step_at steps at (Some name) = step_by_position at (position (is_step name) (drop at steps)) (list_any (is_step name) steps)

-- the DDs of a step
abbrev pub dds_at : List FlatStep → ℕ → List DdCard
dds_at [] at = []
dds_at (step ∷ steps) zero = step.dds
dds_at (step ∷ steps) (suc at) = dds_at steps at

abbrev pub with_dds : List FlatStep → ℕ → List DdCard → List FlatStep
with_dds [] at dds = []
with_dds (step ∷ steps) zero dds = record step { dds = dds } ∷ steps
with_dds (step ∷ steps) (suc at) dds = step ∷ with_dds steps at dds

abbrev pub with_dd : List DdCard → ℕ → DdCard → List DdCard
with_dd [] n dd = []
with_dd (there ∷ dds) zero dd = dd ∷ dds
with_dd (there ∷ dds) (suc n) dd = there ∷ with_dd dds n dd

abbrev pub with_dd_between : List DdCard → ℕ → DdCard → List DdCard
with_dd_between dds zero dd = dd ∷ dds
with_dd_between [] (suc n) dd = dd ∷ []
with_dd_between (there ∷ dds) (suc n) dd = there ∷ with_dd_between dds n dd

-- a DD merged with its override, at its place in its step
abbrev pub puts_merged : Place → ℕ → ℕ → DdCard → DdCard → Result Place Cause
puts_merged place at n there dd = or_fault (told (merged there dd).faults)
    (record { steps = with_dds place.steps at (with_dd (dds_at place.steps at) n (merged there dd).value); at = at; member = n + 1 })

-- a DD with a name changes the first of that name in its step, or is added at the step's end
abbrev pub is_of_name : Option (List ℕ) → DdCard → Bool
is_of_name None dd = false
is_of_name (Some name) dd = is_named dd.name name

abbrev pub adds : Place → ℕ → DdCard → Place
adds place at dd =
    record { steps = with_dds place.steps at (dds_at place.steps at ++ by_itself dd ∷ []); at = at; member = length (dds_at place.steps at) + 1 }

abbrev pub overrides_there : Place → ℕ → DdCard → ℕ → Option DdCard → Result Place Cause
overrides_there place at dd n None = Ok (adds place at dd)
overrides_there place at dd n (Some there) = puts_merged place at n there dd

abbrev pub overrides_by_position : Place → ℕ → DdCard → Option ℕ → Result Place Cause
overrides_by_position place at dd None = Ok (adds place at dd)
overrides_by_position place at dd (Some n) = overrides_there place at dd n (slice_get (dds_at place.steps at) n)

abbrev pub overrides_named : Place → ℕ → DdCard → Result Place Cause
overrides_named place at dd = overrides_by_position place at dd (position (is_of_name dd.name) (dds_at place.steps at))

-- one without a name changes the next member of the concatenation, or is added to it
abbrev pub inserts : Place → DdCard → Place
inserts place dd = record {
  steps = with_dds place.steps place.at (with_dd_between (dds_at place.steps place.at) place.member (by_itself dd));
  at = place.at;
  member = place.member + 1;
}

abbrev pub overrides_next : Place → DdCard → Option DdCard → Result Place Cause
overrides_next place dd None = Ok (inserts place dd)
overrides_next place dd (Some there) =
    if is_none there.name then puts_merged place place.at place.member there dd else Ok (inserts place dd)

abbrev pub overrides_member : Place → DdCard → Result Place Cause
overrides_member place dd = overrides_next place dd (slice_get (dds_at place.steps place.at) place.member)

abbrev pub place_behind : {A : Type 0} → Result A Cause → (A → Result Place Cause) → Result Place Cause
place_behind (Err fault) next = Err fault
place_behind (Ok a) next = next a

abbrev pub overrides_one : Place → DdCard → Result Place Cause
overrides_one place dd =
    if is_none dd.name then overrides_member place dd
    else place_behind (step_at place.steps place.at dd.qualifier) (λ at. overrides_named place at dd)

-- one after another: a DD that one added is found by the next
abbrev pub steps_behind : Result Place Cause → (Place → Result (List FlatStep) Cause) → Result (List FlatStep) Cause
steps_behind (Err fault) next = Err fault
steps_behind (Ok place) next = next place

abbrev pub overrides_from : Place → List DdCard → Result (List FlatStep) Cause
overrides_from place [] = Ok place.steps
overrides_from place (dd ∷ dds) = steps_behind (overrides_one place dd) (λ next. overrides_from next dds)

abbrev pub dds_overridden : List FlatStep → List DdCard → Result (List FlatStep) Cause
dds_overridden steps dds = overrides_from (record { steps = steps; at = 0; member = 0 }) dds
