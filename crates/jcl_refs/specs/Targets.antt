-- What references mean: of tests to steps, and of DDs to earlier DDs. (GC28-6704, "Backward references", COND parameter)
use Rattle.std.specs.Prelude.{ℕ, ◌+◌, ◌-◌, Bool, true, false, ◌&&◌, ◌||◌, ◌==◌, nat_lt, List, [], ◌∷◌, drop, Option, Some, None, is_none, is_some, Result, Ok, Err, if◌then◌else◌}
use Rattle.std.specs.List.{list_any, position}
use Rattle.std.specs.Str.{bytes_eq}
use Rattle.jcl_plan.specs.declared.fault.Cause.{Cause}
use Rattle.jcl_plan.specs.declared.fault.Cause.TheVariants.{P}
use Rattle.jcl_plan.specs.declared.fault.StatementFault.TheVariants.{ForwardReference, ReferenceToNothing}
use Rattle.value_core.specs.declared.reference.DdReference.{DdReference}
use Rattle.value_core.specs.declared.reference.DdReference.TheVariants as dd
use Rattle.value_core.specs.declared.reference.StepReference.{StepReference}
use Rattle.value_core.specs.declared.reference.StepReference.TheVariants as step
use Rattle.jcl_dds.specs.declared.dd.DdCard.{DdCard}
use Rattle.jcl_procs.specs.declared.step.FlatStep.{FlatStep}
use Rattle.jcl_refs.specs.declared.targets.Target.{Target}
use Rattle.jcl_refs.specs.LaterDds.{has_name}

abbrev pub is_name : Option (List ℕ) → List ℕ → Bool
is_name None name = false
is_name (Some own) name = bytes_eq own name

-- a step that no procedure brought, by its name
abbrev pub is_own_step : List ℕ → FlatStep → Bool
is_own_step name s = is_none s.call && is_name s.name name

-- a step of a call, by its name in the procedure
abbrev pub is_call : Option ℕ → ℕ → Bool
is_call None call = false
is_call (Some own) call = own == call

abbrev pub is_step_of_call : ℕ → List ℕ → FlatStep → Bool
is_step_of_call call name s = is_call s.call call && is_name s.procedure_step name

-- a step that an EXEC statement of a name brought, by its name in the procedure
abbrev pub is_brought_by : List ℕ → List ℕ → FlatStep → Bool
is_brought_by name procedure_step s = is_some s.call && is_name s.name name && is_name s.procedure_step procedure_step

-- the latest step before the k-th for which something holds; steps count from 1
abbrev pub or_else : {A : Type 0} → Option A → Option A → Option A
or_else None other = other
or_else (Some a) other = Some a

abbrev pub latest_from : (FlatStep → Bool) → ℕ → ℕ → List FlatStep → Option ℕ
latest_from holds n k [] = None
latest_from holds n k (s ∷ steps) = if nat_lt n k then or_else (latest_from holds (n + 1) k steps) (if holds s then Some n else None) else None

abbrev pub latest : (FlatStep → Bool) → ℕ → List FlatStep → Option ℕ
latest holds k steps = latest_from holds 1 k steps

-- A plain name in a step that a procedure brought means first a step of the same call; else, and elsewhere, a step that no procedure brought.
abbrev pub earlier_named : Option ℕ → List ℕ → ℕ → List FlatStep → Option ℕ
earlier_named None name k steps = latest (is_own_step name) k steps
earlier_named (Some call) name k steps = or_else (latest (is_step_of_call call name) k steps) (latest (is_own_step name) k steps)

-- the earlier step that a reference in a step of this call, the k-th, means
abbrev pub earlier_step : Option ℕ → StepReference → ℕ → List FlatStep → Option ℕ
earlier_step call (step.Step name) k steps = earlier_named call name k steps
earlier_step call (step.ProcedureStep name procedure_step) k steps = latest (is_brought_by name procedure_step) k steps

-- any step that a reference may mean
abbrev pub may_mean : Option ℕ → StepReference → FlatStep → Bool
may_mean None (step.Step name) s = is_own_step name s
may_mean (Some call) (step.Step name) s = is_step_of_call call name s || is_own_step name s
may_mean call (step.ProcedureStep name procedure_step) s = is_brought_by name procedure_step s

-- the place of the first DD of a name, from 1
abbrev pub dd_position : List ℕ → List DdCard → Option ℕ
dd_position name dds = by (position (has_name name) dds)
  where
    by : Option ℕ → Option ℕ
    by None = None
    by (Some n) = Some (n + 1)

abbrev pub dds_of : List FlatStep → ℕ → List DdCard
dds_of steps k = first (drop (k - 1) steps)
  where
    first : List FlatStep → List DdCard
    first [] = []
    first (s ∷ more) = s.dds

-- a DD of the same step: an earlier one, else it looks forward or to nothing
abbrev pub in_step : List ℕ → ℕ → ℕ → List DdCard → Result Target Cause
in_step name k d dds = by (dd_position name dds)
  where
    by : Option ℕ → Result Target Cause
    by None = Err (P ReferenceToNothing)
    by (Some n) = if nat_lt n d then Ok (record { step = k; dd = n }) else Err (P ForwardReference)

-- the DD of an earlier step that a reference means, where there is one
abbrev pub earlier_dd : Option ℕ → StepReference → List ℕ → ℕ → List FlatStep → Option Target
earlier_dd call s name k steps = by_step (earlier_step call s k steps)
  where
    by_place : ℕ → Option ℕ → Option Target
    by_place t None = None
    by_place t (Some n) = Some (record { step = t; dd = n })

    by_step : Option ℕ → Option Target
    by_step None = None
    by_step (Some t) = by_place t (dd_position name (dds_of steps t))

-- whether a step from the k-th on has the DD
abbrev pub looks_forward : Option ℕ → StepReference → List ℕ → ℕ → List FlatStep → Bool
looks_forward call s name k steps = list_any (λ other. may_mean call s other && list_any (has_name name) other.dds) (drop (k - 1) steps)

-- a DD of an earlier step, else it looks forward or to nothing
abbrev pub missing : Bool → Cause
missing true = P ForwardReference
missing false = P ReferenceToNothing

abbrev pub in_earlier : Option ℕ → StepReference → List ℕ → ℕ → List FlatStep → Result Target Cause
in_earlier call s name k steps = by (earlier_dd call s name k steps)
  where
    by : Option Target → Result Target Cause
    by None = Err (missing (looks_forward call s name k steps))
    by (Some t) = Ok t

-- what a reference of the d-th DD of the k-th step, which is one of this call, means
abbrev pub target_of : Option ℕ → ℕ → ℕ → List FlatStep → DdReference → Result Target Cause
target_of call k d steps (dd.Dd name) = in_step name k d (dds_of steps k)
target_of call k d steps (dd.OfStep s name) = in_earlier call (step.Step s) name k steps
target_of call k d steps (dd.OfProcedureStep s p name) = in_earlier call (step.ProcedureStep s p) name k steps
