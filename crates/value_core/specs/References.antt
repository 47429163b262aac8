-- References: *.dd, *.step.dd, *.step.procstep.dd; of a test step, step.procstep. (GC28-6704, "Backward references"; COND parameter)
use Rattle.std.specs.Prelude.{ℕ, Bool, List, [], ◌∷◌, ◌++◌, drop, length, Option, Some, None, nat_lt, codes, nat_eq}
use Rattle.std.specs.List.{flat_map, starts_with}
use Rattle.jname_core.specs.Grammar.{components_of}
use Rattle.jcl_plan.specs.declared.fault.Cause.{Cause}
use Rattle.jcl_plan.specs.declared.fault.Cause.TheVariants.{P}
use Rattle.jcl_plan.specs.declared.fault.StatementFault.TheVariants.{BadValue}
use Rattle.operand_core.specs.Faults.{name_faults, when}
use Rattle.value_core.specs.declared.reference.DdReference.{DdReference}
use Rattle.value_core.specs.declared.reference.DdReference.TheVariants as dd
use Rattle.value_core.specs.declared.reference.StepReference.{StepReference}
use Rattle.value_core.specs.declared.reference.StepReference.TheVariants as step
use Rattle.value_core.specs.Reads.{Read}

abbrev pub is_reference : List ℕ → Bool
is_reference text = starts_with nat_eq text (codes "*.")

-- each part is a name, and there are not too many
abbrev pub parts_faults : ℕ → List (List ℕ) → List Cause
parts_faults most parts = flat_map name_faults parts ++ when (nat_lt most (length parts)) (P BadValue)

-- the parts that are left behind a period, or none
abbrev pub components_left : Option (List ℕ) → List (List ℕ)
components_left None = []
components_left (Some text) = components_of text

abbrev pub dd_of_parts : List (List ℕ) → DdReference
dd_of_parts [] = dd.Dd []
dd_of_parts (d ∷ []) = dd.Dd d
dd_of_parts (s ∷ d ∷ []) = dd.OfStep s d
dd_of_parts (s ∷ p ∷ d ∷ more) = dd.OfProcedureStep s p d

-- what stands behind `*.`
abbrev pub dd_reference : List ℕ → Read DdReference
dd_reference text = record { value = dd_of_parts (components_of (drop 2 text)); faults = parts_faults 3 (components_of (drop 2 text)) }

abbrev pub step_of_parts : List (List ℕ) → StepReference
step_of_parts [] = step.Step []
step_of_parts (s ∷ []) = step.Step s
step_of_parts (s ∷ p ∷ more) = step.ProcedureStep s p

abbrev pub step_reference : List ℕ → Read StepReference
step_reference text = record { value = step_of_parts (components_of text); faults = parts_faults 2 (components_of text) }
