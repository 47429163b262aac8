-- Tests of COND, as they are read, and the faults that are told; more of them are in list_values' own examples. `condition` answers what its
-- definition here reads. (list_values)
use Rattle.std.specs.Prelude.{◌≡◌, ◌∷◌, [], true, false, codes, Some, None}
use Rattle.jcl_plan.specs.declared.fault.Cause.TheVariants.{P}
use Rattle.jcl_plan.specs.declared.fault.StatementFault.TheVariants.{BadValue, ExcludeOneAnother}
use Rattle.jcl_plan.specs.declared.plan.AfterAbend.TheVariants as after
use Rattle.jcl_plan.specs.declared.plan.Operator.TheVariants as operator
use Rattle.operand_core.specs.Faults.{told}
use Rattle.value_core.specs.declared.reference.StepReference.TheVariants as step
use Rattle.value_core.specs.Reads.{good}
use Rattle.list_values.specs.Conditions.{condition}

-- COND: `condition` answers this.
pub record ReadsConditions : Type 0 where
  pub of_a_step : condition true (codes "(0,EQ,S1)")
      ≡ good (record { tests = record { items = record { code = 0; operator = operator.Eq; step = Some (step.Step (codes "S1")) } ∷ [] }; after_abend = after.Unsaid })
  pub even_first : condition true (codes "(EVEN,(4095,GE,S1.P1),(4,LT))")
      ≡ good (record { tests = record { items = record { code = 4095; operator = operator.Ge; step = Some (step.ProcedureStep (codes "S1") (codes "P1")) } ∷ record { code = 4; operator = operator.Lt; step = None } ∷ [] }; after_abend = after.Even })
  pub all_operators : condition false (codes "((1,GT),(2,GE),(3,EQ),(4,LT),(5,LE),(6,NE),(7,GT),(8,GE))")
      ≡ good (record { tests = record { items = record { code = 1; operator = operator.Gt; step = None } ∷ record { code = 2; operator = operator.Ge; step = None } ∷ record { code = 3; operator = operator.Eq; step = None } ∷ record { code = 4; operator = operator.Lt; step = None } ∷ record { code = 5; operator = operator.Le; step = None } ∷ record { code = 6; operator = operator.Ne; step = None } ∷ record { code = 7; operator = operator.Gt; step = None } ∷ record { code = 8; operator = operator.Ge; step = None } ∷ [] }; after_abend = after.Unsaid })
  pub even : condition true (codes "EVEN")
      ≡ good (record { tests = record { items = [] }; after_abend = after.Even })
  pub only_in_parentheses : condition true (codes "(ONLY)")
      ≡ good (record { tests = record { items = [] }; after_abend = after.Only })

-- The faults of COND that are told.
pub record RefusesConditions : Type 0 where
  pub no_comma_between : told (condition true (codes "(8,LT)(9,GT)")).faults ≡ Some (P BadValue)
  pub test_and_code : told (condition true (codes "((8,LT),8)")).faults ≡ Some (P BadValue)
  pub even_twice : told (condition true (codes "(EVEN,EVEN)")).faults ≡ Some (P ExcludeOneAnother)
