-- What jobs decks denote with a library and names of units, and which refusal is told first. `job_of` answers this. (jcl_job)
use Rattle.std.specs.Prelude.{◌≡◌, ℕ, zero, suc, ◌++◌, ◌∷◌, [], List, length, map, codes, Option, Some, None, Result, Ok, unwrap_or, decimal}
use Rattle.std.specs.List.{flat_map}
use Rattle.jcl_plan.specs.declared.fault.Cause.{Cause}
use Rattle.jcl_plan.specs.declared.fault.Cause.TheVariants.{C, P}
use Rattle.jcl_plan.specs.declared.fault.StatementFault.TheVariants.{ExcludeOneAnother, ForwardReference, NoSuchProcedure, NoSuchProcedureStep, OverrideOutOfOrder, ProcedureCallsProcedure, ReferenceToNothing, SymbolWithoutValue, TestOfNoEarlierStep, TooManyDdNames, TooManyDds, TooManyNames, TooManySteps, UnknownUnit}
use Rattle.jcl_plan.specs.declared.plan.DdKind.{DdKind}
use Rattle.jcl_plan.specs.declared.plan.DdKind.TheVariants.{Cards, Dummy, Set, Sysout}
use Rattle.jcl_plan.specs.declared.plan.DdPlan.{DdPlan}
use Rattle.jcl_plan.specs.declared.plan.StepPlan.{StepPlan}
use Rattle.jcl_plan.specs.declared.plan.Test.{Test}
use Rattle.jcl_procs.specs.Expansions.{and_then}
use Rattle.jcl_rows.specs.Jobs.{cards, job, refusal, times}

-- a DD with its class, the number of its cards, or the number of its unit (0: none)
abbrev pub kind_shown : DdKind → List ℕ
kind_shown Dummy = codes "=DUMMY"
kind_shown (Sysout class) = codes "=" ++ class ∷ []
kind_shown (Cards cards) = codes "=CARDS" ++ decimal (length cards)
kind_shown (Set set) = codes "=SET" ++ decimal (unwrap_or set.units 0)

abbrev pub dd_shown : DdPlan → List ℕ
dd_shown dd = codes " " ++ unwrap_or dd.name (codes "-") ++ kind_shown dd.kind

-- the step that a test names (0: none)
abbrev pub test_shown : Test → List ℕ
test_shown test = codes " IF" ++ decimal (unwrap_or test.step 0)

abbrev pub behind_period : Option (List ℕ) → List ℕ
behind_period None = []
behind_period (Some name) = codes "." ++ name

-- a step's names, its program, its tests and its DDs
abbrev pub step_shown : StepPlan → List ℕ
step_shown step = unwrap_or step.name [] ++ behind_period step.procedure_step ++ codes " " ++ step.program ++ flat_map test_shown step.tests.items
    ++ flat_map dd_shown step.dds ++ codes ";"

abbrev pub shown_of : List (List ℕ) → Result (List ℕ) Cause
shown_of lines = and_then (job lines) (λ plan. Ok (flat_map step_shown plan.steps))

-- a step with nine names that no other has, and more before it
abbrev pub of_nine_names : ℕ → List (List ℕ)
of_nine_names zero = []
of_nine_names (suc n) = codes "//S EXEC PGM=X" ∷ (map (λ last. codes "//D DD DSN=N" ++ decimal n ++ 46 ∷ last ∷ []) (codes "ABCDEFGHI") ++ of_nine_names n)

-- Jobs, and their plans.
pub record DenotesJobs : Type 0 where
  pub one_step : shown_of (cards "//S EXEC PGM=X")
      ≡ Ok (codes "S X;")
  pub call : shown_of (cards "//S EXEC P,C=B")
      ≡ Ok (codes "S.A IEFBR14 O=B;")
  pub call_with_its_own_program : shown_of (cards "//S EXEC P,C=B,N=OWN\n//A.O DD DUMMY")
      ≡ Ok (codes "S.A OWN O=DUMMY;")
  pub call_of_two_steps : shown_of (cards "//S EXEC TWO\n//T EXEC PGM=Z,COND=((0,EQ,S.B),(1,LT))")
      ≡ Ok (codes "S.A X D=A;S.B Y IF1 E=DUMMY;T Z IF2 IF0;")
  pub condition_of_a_step : shown_of (cards "//S EXEC TWO,COND.B=EVEN")
      ≡ Ok (codes "S.A X D=A;S.B Y E=DUMMY;")
  pub in_the_stream : shown_of (cards "//P PROC\n//Q EXEC PGM=OWN\n// PEND\n//S EXEC P")
      ≡ Ok (codes "S.Q OWN;")
  pub later_dd_and_units : shown_of (cards "//S EXEC PGM=X\n//A DD DDNAME=B\n//C DD *\n1\n2\n//B DD DSN=D.E,UNIT=SYSDA\n// DD UNIT=DISK")
      ≡ Ok (codes "S X A=SET2 -=SET1 C=CARDS2;")
  pub names_of_dds : shown_of (cards "//S EXEC PGM=X\n//A DD DSN=NULLFILE\n//B DD DSN=*.A\n//C DD UNIT=DISK\n//T EXEC PGM=X\n//D DD DSN=*.S.C")
      ≡ Ok (codes "S X A=DUMMY B=DUMMY C=SET1;T X D=SET0;")

-- The refusal that is told first.
pub record RefusesJobs : Type 0 where
  pub no_such_procedure : refusal (cards "//S EXEC NONE") ≡ Some (P NoSuchProcedure)
  pub procedure_calls_one : refusal (cards "//S EXEC CALLS") ≡ Some (P ProcedureCallsProcedure)
  pub cards_of_a_procedure : refusal (cards "//S EXEC LATE") ≡ Some (C 5)
  pub no_value : refusal (cards "//S EXEC P") ≡ Some (P SymbolWithoutValue)
  pub out_of_order : refusal (cards "//S EXEC TWO\n//B.E DD DUMMY\n//A.D DD DUMMY") ≡ Some (P OverrideOutOfOrder)
  pub condition_of_no_step : refusal (cards "//S EXEC TWO,COND.C=EVEN") ≡ Some (P NoSuchProcedureStep)
  pub procedure_before_test : refusal (cards "//S EXEC PGM=X,COND=(0,EQ,S)\n//T EXEC NONE") ≡ Some (P NoSuchProcedure)
  pub test_before_reference : refusal (cards "//S EXEC PGM=X,COND=(0,EQ,S)\n//D DD DSN=*.D") ≡ Some (P TestOfNoEarlierStep)
  pub reference_to_nothing : refusal (cards "//S EXEC PGM=X\n//D DD DSN=*.E") ≡ Some (P ReferenceToNothing)
  pub reference_before_unit : refusal (cards "//S EXEC PGM=X\n//D DD DSN=*.D,UNIT=TAPE") ≡ Some (P ForwardReference)
  pub uncatalogued_temporary : refusal (cards "//S EXEC PGM=X\n//D DD DSN=&&T,DISP=(,UNCATLG)") ≡ Some (P ExcludeOneAnother)
  pub unknown_unit : refusal (cards "//S EXEC PGM=X\n//D DD DUMMY,UNIT=TAPE") ≡ Some (P UnknownUnit)

-- So many steps, DDs, DDNAME keywords and names, and one more.
pub record HasLimits : Type 0 where
  pub steps_255 : refusal (times 255 (cards "//S EXEC PGM=X")) ≡ None
  pub steps_256 : refusal (times 256 (cards "//S EXEC PGM=X")) ≡ Some (P TooManySteps)
  pub dds_64 : refusal (cards "//S EXEC PGM=X" ++ times 64 (cards "//D DD DUMMY")) ≡ None
  pub dds_65 : refusal (cards "//S EXEC PGM=X" ++ times 65 (cards "//D DD DUMMY")) ≡ Some (P TooManyDds)
  pub dd_names_5 : refusal (cards "//S EXEC PGM=X" ++ times 5 (cards "//D DD DDNAME=E")) ≡ None
  pub dd_names_6 : refusal (cards "//S EXEC PGM=X" ++ times 6 (cards "//D DD DDNAME=E")) ≡ Some (P TooManyDdNames)
  pub names_252 : refusal (cards "//S EXEC PGM=X" ++ of_nine_names 28) ≡ None
  pub names_261 : refusal (cards "//S EXEC PGM=X" ++ of_nine_names 29) ≡ Some (P TooManyNames)
