-- DD statements, and a DD with its override; the others, and JOB, EXEC and PROC statements, are in the examples of jcl_dds and jcl_cards. A reader's
-- contract is that it answers what its definition here reads. (jcl_dds)
use Rattle.std.specs.Prelude.{◌≡◌, ℕ, ◌∷◌, [], true, false, List, replicate, codes, Some, None}
use Rattle.jname_core.specs.declared.key.Key.TheVariants.{Named}
use Rattle.jcl_plan.specs.declared.fault.Cause.TheVariants.{P}
use Rattle.jcl_plan.specs.declared.fault.StatementFault.TheVariants.{ExcludeOneAnother}
use Rattle.jcl_plan.specs.declared.plan.Status.TheVariants as status
use Rattle.jcl_plan.specs.declared.plan.Word.TheVariants as word
use Rattle.operand_core.specs.Faults.{told}
use Rattle.value_core.specs.declared.reference.DdReference.TheVariants as reference
use Rattle.value_core.specs.declared.set.SetName.TheVariants.{Of}
use Rattle.value_core.specs.Reads.{good}
use Rattle.jcl_cards.specs.declared.coded.Coded.TheVariants.{NotGiven, Nullified, Value}
use Rattle.jcl_dds.specs.declared.dd.DdCard.{DdCard}
use Rattle.jcl_dds.specs.DdCards.{dd_card, has_data}
use Rattle.jcl_dds.specs.Examples.{empty}
use Rattle.jcl_dds.specs.Merging.{by_itself, merged}

-- what a DD statement without cards is read as
abbrev pub read : List ℕ → List ℕ → DdCard
read name operand = (dd_card name operand None).value

-- DD statements: `dd_card` answers this; `has_data` and `by_itself` are code of their own.
pub record ReadsDds : Type 0 where
  pub set : dd_card (codes "P1.D") (codes "DSN=A.B,DISP=(OLD,KEEP),SPACE=(CYL,1),DCB=(*.C,RECFM=F),UCS=X,UNIT=") None
      ≡ good (record empty {
        qualifier = Some (codes "P1");
        set_name = Value (Of (Named (codes "A.B")));
        disposition = Value (record { status = status.Old; normal = Some word.Keep; conditional = None });
        unit = Nullified;
        space = Value (record { primary = 20; secondary = 0; release = false });
        control_blocks = Value (reference.Dd (codes "C") ∷ []);
        character_set = Value tt;
      })
  pub set_has_no_data : has_data (read (codes "P1.D") (codes "DSN=A.B,UNIT=")) ≡ false
  pub nothing_is_nullified_by_itself : (by_itself (read (codes "P1.D") (codes "DSN=A.B,UNIT="))).unit ≡ NotGiven
  pub cards_are_data : has_data (dd_card [] (codes "*,DCB=BLKSIZE=80") (Some (replicate 80 65 ∷ []))).value ≡ true

-- A DD with its override: `merged` answers this.
pub record MergesDds : Type 0 where
  pub name_removes_class : merged (read (codes "D") (codes "SYSOUT=A")) (read (codes "P1.E") (codes "DSN=A")) ≡ good (record empty { set_name = Value (Of (Named (codes "A"))) })
  pub name_of_a_later_dd : told (merged (read (codes "D") (codes "DDNAME=X")) (read (codes "D") (codes "DSN=A"))).faults ≡ Some (P ExcludeOneAnother)
