-- Values that are lists, or the fault that is told. (This profile)
use Rattle.std.specs.Prelude.{◌≡◌, ℕ, true, false, List, [], ◌∷◌, codes, Some, None}
use Rattle.jcl_plan.specs.declared.fault.Cause.TheVariants.{N, P}
use Rattle.jcl_plan.specs.declared.fault.StatementFault.TheVariants.{BadValue, ExcludeOneAnother, TooManyTests}
use Rattle.jcl_plan.specs.declared.plan.AfterAbend.TheVariants as after
use Rattle.jcl_plan.specs.declared.plan.Operator.TheVariants as operator
use Rattle.operand_core.specs.Faults.{told}
use Rattle.value_core.specs.declared.reference.DdReference.TheVariants as dd
use Rattle.value_core.specs.declared.reference.StepReference.TheVariants as step
use Rattle.value_core.specs.Reads.{good}
use Rattle.list_values.specs.Conditions.{condition}
use Rattle.list_values.specs.ControlBlocks.{control_blocks}

abbrev pub nine_tests : List ℕ
nine_tests = codes "((1,EQ),(1,EQ),(1,EQ),(1,EQ),(1,EQ),(1,EQ),(1,EQ),(1,EQ),(1,EQ))"

pub record ReadsConditions : Type 0 where
  pub one : condition true (codes "(0,EQ,S1)") ≡ good (record {
    tests = record { items = record { code = 0; operator = operator.Eq; step = Some (step.Step (codes "S1")) } ∷ [] };
    after_abend = after.Unsaid;
  })
  pub even : condition true (codes "((4095,GE,S1.P1),EVEN)") ≡ good (record {
    tests = record { items = record { code = 4095; operator = operator.Ge; step = Some (step.ProcedureStep (codes "S1") (codes "P1")) } ∷ [] };
    after_abend = after.Even;
  })
  pub only : condition true (codes "ONLY") ≡ good (record { tests = record { items = [] }; after_abend = after.Only })
  pub of_a_job : condition false (codes "(8,LT)") ≡ good (record {
    tests = record { items = record { code = 8; operator = operator.Lt; step = None } ∷ [] };
    after_abend = after.Unsaid;
  })
  pub even_of_a_job : told (condition false (codes "EVEN")).faults ≡ Some (P BadValue)
  pub step_of_a_job : told (condition false (codes "(8,LT,S1)")).faults ≡ Some (P BadValue)
  pub code : told (condition true (codes "(4096,LT)")).faults ≡ Some (P BadValue)
  pub unknown : told (condition true (codes "(8,XX)")).faults ≡ Some (P BadValue)
  pub both : told (condition true (codes "(EVEN,ONLY)")).faults ≡ Some (P ExcludeOneAnother)
  pub empty : told (condition true (codes "()")).faults ≡ Some (P BadValue)
  pub nine : told (condition true nine_tests).faults ≡ Some (P TooManyTests)
  pub bad_step : told (condition true (codes "(8,LT,1S)")).faults ≡ Some (N 3)

pub record ReadsControlBlocks : Type 0 where
  pub like_another : control_blocks (codes "(*.S1.X,BLKSIZE=80)") ≡ good (dd.OfStep (codes "S1") (codes "X") ∷ [])
  pub alone : control_blocks (codes "*.X") ≡ good (dd.Dd (codes "X") ∷ [])
  pub two : control_blocks (codes "(*.X,RECFM=F,*.S.Y)") ≡ good (dd.Dd (codes "X") ∷ dd.OfStep (codes "S") (codes "Y") ∷ [])
  pub of_form : control_blocks (codes "(RECFM=FB,LRECL=80)") ≡ good []
  pub bad_name : told (control_blocks (codes "(*.X,*.1)")).faults ≡ Some (N 3)
