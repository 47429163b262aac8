-- Cards without a fault whose values stand at the ends of their ranges.
use Rattle.std.specs.Prelude.{◌≡◌, ℕ, false, List, [], ◌∷◌, codes, Some, None}
use Rattle.jname_core.specs.declared.key.Key.TheVariants.{Named, Relative, Temporary}
use Rattle.jname_core.specs.declared.key.Sign.TheVariants.{Minus}
use Rattle.jcl_plan.specs.declared.plan.AfterAbend.TheVariants.{Unsaid}
use Rattle.jcl_plan.specs.declared.plan.Operator.TheVariants.{Lt}
use Rattle.operand_core.specs.Faults.{told}
use Rattle.list_values.specs.declared.condition.CodedTest.{CodedTest}
use Rattle.list_values.specs.declared.condition.Condition.{Condition}
use Rattle.value_core.specs.declared.set.SetName.{SetName}
use Rattle.value_core.specs.declared.set.SetName.TheVariants.{Of}
use Rattle.value_core.specs.declared.set.VolumeName.{VolumeName}
use Rattle.value_core.specs.declared.set.VolumeName.TheVariants as volume
use Rattle.value_core.specs.Reads.{Read, good}
use Rattle.jcl_cards.specs.declared.coded.Coded.{Coded}
use Rattle.jcl_cards.specs.declared.coded.Coded.TheVariants.{Value}
use Rattle.jcl_cards.specs.declared.exec.Runs.TheVariants.{Program, Procedure}
use Rattle.jcl_cards.specs.ExecCards.{exec_card}
use Rattle.jcl_cards.specs.JobCards.{job_card}
use Rattle.jcl_dds.specs.declared.dd.DdCard.{DdCard}
use Rattle.jcl_dds.specs.DdCards.{dd_card}

abbrev pub greatest_test : CodedTest
greatest_test = record { code = 4095; operator = Lt; step = None }

abbrev pub greatest : Condition
greatest = record { tests = record { items = greatest_test ∷ [] }; after_abend = Unsaid }

-- a DD of which no fault is told, and its values
abbrev pub dd : List ℕ → Read DdCard
dd operand = dd_card (codes "A2345678") operand None

abbrev pub Names : List ℕ → Coded SetName → Type 0
Names operand name = (told (dd operand).faults ≡ None) × ((dd operand).value.set_name ≡ name)

abbrev pub IsOn : List ℕ → Coded VolumeName → Type 0
IsOn operand name = (told (dd operand).faults ≡ None) × ((dd operand).value.volume ≡ name)

pub record Ends : Type 0 where
  pub job : job_card (codes "A2345678") (codes "CLASS=O,PRTY=13,MSGCLASS=9,COND=(4095,LT)")
      ≡ good (record { name = codes "A2345678"; class = 79; priority = 13; message_class = 57; tests = greatest.tests })
  pub program : exec_card (codes "A2345678") (codes "PGM=B2345678,COND=(4095,LT)")
      ≡ good (record {
        name = Some (codes "A2345678");
        runs = Program (codes "B2345678");
        condition = Some greatest;
        step_conditions = [];
        named_steps = [];
      })
  pub call : exec_card [] (codes "P,COND.A2345678=(4095,LT)")
      ≡ good (record {
        name = None;
        runs = Procedure (codes "P") [];
        condition = None;
        step_conditions = record { step = codes "A2345678"; condition = greatest } ∷ [];
        named_steps = codes "A2345678" ∷ [];
      })
  pub set_of_44 : Names (codes "DSN=A2345678.B2345678.C2345678.D2345678.E2345678")
      (Value (Of (Named (codes "A2345678.B2345678.C2345678.D2345678.E2345678"))))
  pub base_of_35 : Names (codes "DSN=A2345678.B2345678.C2345678.D2345678(-255)")
      (Value (Of (Relative (codes "A2345678.B2345678.C2345678.D2345678") Minus 255)))
  pub temporary : Names (codes "DSN=&&A2345678") (Value (Of (Temporary (codes "A2345678"))))
  pub serial_of_6 : IsOn (codes "VOL=SER=-ABC12") (Value (volume.Serial (codes "-ABC12")))
  pub volume_of_44 : IsOn (codes "VOL=REF=A2345678.B2345678.C2345678.D2345678.E2345678")
      (Value (volume.OfName (codes "A2345678.B2345678.C2345678.D2345678.E2345678")))
  pub tracks : (told (dd (codes "SPACE=(CYL,(200,200))")).faults ≡ None)
      × ((dd (codes "SPACE=(CYL,(200,200))")).value.space ≡ Value (record { primary = 4000; secondary = 4000; release = false }))
  pub class : (told (dd (codes "SYSOUT=9")).faults ≡ None) × ((dd (codes "SYSOUT=9")).value.sysout ≡ Value 57)
