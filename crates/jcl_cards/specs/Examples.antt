-- Statements, and the cards that they are, or the fault that is told. (This profile)
use Rattle.std.specs.Prelude.{◌≡◌, ℕ, true, false, List, [], ◌∷◌, ◌++◌, codes, replicate, Option, Some, None}
use Rattle.jcl_plan.specs.declared.fault.Cause.{Cause}
use Rattle.jcl_plan.specs.declared.fault.Cause.TheVariants.{N, P}
use Rattle.jcl_plan.specs.declared.fault.StatementFault.TheVariants.{BadValue, KeywordTwice, LeftOut, MissingName, NotOneProgram, OperandTooLong, TooManyPositional, UnbalancedParentheses, UnknownKeyword}
use Rattle.jcl_plan.specs.declared.plan.AfterAbend.TheVariants.{Even, Only}
use Rattle.jcl_plan.specs.declared.plan.Operator.TheVariants.{Lt}
use Rattle.operand_core.specs.Faults.{told}
use Rattle.list_values.specs.declared.condition.CodedTest.{CodedTest}
use Rattle.list_values.specs.declared.condition.Condition.{Condition}
use Rattle.value_core.specs.Reads.{good}
use Rattle.jcl_cards.specs.declared.exec.Runs.TheVariants.{Program, Procedure}
use Rattle.jcl_cards.specs.ExecCards.{exec_card}
use Rattle.jcl_cards.specs.JobCards.{job_card}
use Rattle.jcl_cards.specs.ProcedureCards.{procedure_card}

abbrev pub below_4 : CodedTest
below_4 = record { code = 4; operator = Lt; step = None }

abbrev pub job : List ℕ → Option Cause
job operand = told (job_card (codes "J") operand).faults

pub record ReadsJobs : Type 0 where
  pub whole : job_card (codes "J") (codes "1,SMITH,CLASS=B,PRTY=013,MSGCLASS=9,COND=(4,LT),REGION=20K")
      ≡ good (record { name = codes "J"; class = 66; priority = 13; message_class = 57; tests = record { items = below_4 ∷ [] } })
  pub plain : job_card (codes "J") []
      ≡ good (record { name = codes "J"; class = 65; priority = 6; message_class = 65; tests = record { items = [] } })
  pub without_a_name : told (job_card [] (codes "CLASS=P")).faults ≡ Some (P MissingName)
  pub bad_name : told (job_card (codes "1J") (codes "CLASS=P")).faults ≡ Some (N 3)
  pub third_positional : job (codes "1,,X") ≡ Some (P TooManyPositional)
  pub empty_positional : job (codes ",SMITH") ≡ None
  pub class_p : job (codes "CLASS=P") ≡ Some (P BadValue)
  pub no_class : job (codes "CLASS=") ≡ Some (P BadValue)
  pub priority_14 : job (codes "PRTY=14") ≡ Some (P BadValue)
  pub test_of_a_step : job (codes "COND=(4,LT,S1)") ≡ Some (P BadValue)
  pub even : job (codes "COND=EVEN") ≡ Some (P BadValue)
  pub no_condition : job (codes "COND=") ≡ Some (P BadValue)
  pub for_its_form : job (codes "MSGLEVEL=,TIME=(1,30),NOTIFY=X") ≡ None
  pub left_out : job (codes "RESTART=S1") ≡ Some (P LeftOut)
  pub left_out_twice : job (codes "RD=R,RD=R") ≡ Some (P KeywordTwice)
  pub unknown : job (codes "PGM=X") ≡ Some (P UnknownKeyword)
  pub lowest : job (codes "CLASS=P,CLASS=A,X=1") ≡ Some (P UnknownKeyword)
  pub unread : job (codes "CLASS=(P,X=1") ≡ Some (P UnbalancedParentheses)
  pub too_long : told (job_card [] (replicate 1025 65)).faults ≡ Some (P OperandTooLong)

abbrev pub exec : List ℕ → Option Cause
exec operand = told (exec_card (codes "S") operand).faults

abbrev pub when_even : Condition
when_even = record { tests = record { items = [] }; after_abend = Even }

abbrev pub when_only : Condition
when_only = record { tests = record { items = [] }; after_abend = Only }

pub record ReadsExecs : Type 0 where
  pub program : exec_card (codes "S") (codes "PGM=X,COND=((4,LT),EVEN),PARM='A,B',REGION=")
      ≡ good (record {
        name = Some (codes "S");
        runs = Program (codes "X");
        condition = Some (record { tests = record { items = below_4 ∷ [] }; after_abend = Even });
        step_conditions = [];
        named_steps = [];
      })
  pub call : exec_card [] (codes "P,N='A''B',COND.A=ONLY,PARM.B=X,E=,COND=EVEN")
      ≡ good (record {
        name = None;
        runs = Procedure (codes "P") (record { name = codes "N"; value = codes "A'B" } ∷ record { name = codes "E"; value = [] } ∷ []);
        condition = Some when_even;
        step_conditions = record { step = codes "A"; condition = when_only } ∷ [];
        named_steps = codes "A" ∷ codes "B" ∷ [];
      })
  pub by_keyword : exec_card [] (codes "PROC=P")
      ≡ good (record { name = None; runs = Procedure (codes "P") []; condition = None; step_conditions = []; named_steps = [] })
  pub of_nothing : exec [] ≡ Some (P NotOneProgram)
  pub of_both : exec (codes "PGM=X,PROC=Y") ≡ Some (P NotOneProgram)
  pub twice_called : exec (codes "X,PROC=Y") ≡ Some (P NotOneProgram)
  pub unnamed_program : exec (codes "PGM=") ≡ Some (N 1)
  pub by_reference : exec (codes "PGM=*.A.B") ≡ Some (P LeftOut)
  pub step_of_a_program : exec (codes "PGM=X,COND.A=EVEN") ≡ Some (P UnknownKeyword)
  pub symbol_of_a_program : exec (codes "PGM=X,N=1") ≡ Some (P UnknownKeyword)
  pub symbol_of_a_step : exec (codes "P,N.A=1") ≡ Some (P UnknownKeyword)
  pub long_symbol : exec (codes "P,ABCDEFGH=1") ≡ Some (N 2)
  pub bad_step : exec (codes "P,PARM.1=X") ≡ Some (N 3)
  pub no_condition : exec (codes "PGM=X,COND=") ≡ Some (P BadValue)
  pub parm_of_100 : exec (codes "PGM=X,PARM='" ++ replicate 100 65 ++ codes "'") ≡ None
  pub parm_of_101 : exec (codes "PGM=X,PARM='" ++ replicate 101 65 ++ codes "'") ≡ Some (P BadValue)
  pub left_out : exec (codes "P,RD.A=R") ≡ Some (P LeftOut)
  pub twice : exec (codes "PGM=X,COND=EVEN,COND=ONLY") ≡ Some (P KeywordTwice)
  pub of_two_steps : exec (codes "P,COND.A=EVEN,COND.B=ONLY") ≡ None

pub record ReadsProcedures : Type 0 where
  pub of_symbols : procedure_card true (codes "P") (codes "A=1,1X=,B='X Y'")
      ≡ good (record {
        name = Some (codes "P");
        symbols = record { name = codes "A"; value = codes "1" } ∷ record { name = codes "1X"; value = [] } ∷ record { name = codes "B"; value = codes "X Y" } ∷ [];
      })
  pub of_the_library : procedure_card false [] [] ≡ good (record { name = None; symbols = [] })
  pub without_a_name : told (procedure_card true [] []).faults ≡ Some (P MissingName)
  pub positional : told (procedure_card true (codes "P") (codes "X")).faults ≡ Some (P TooManyPositional)
  pub twice : told (procedure_card true (codes "P") (codes "A=1,A=2")).faults ≡ Some (P KeywordTwice)
  pub of_a_step : told (procedure_card true (codes "P") (codes "A.B=1")).faults ≡ Some (N 3)
