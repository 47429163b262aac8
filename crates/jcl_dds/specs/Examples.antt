-- DD statements, and the cards that they are, or the fault that is told. (This profile)
use Rattle.std.specs.Prelude.{◌≡◌, ℕ, false, List, [], ◌∷◌, codes, replicate, Option, Some, None}
use Rattle.jname_core.specs.declared.key.Key.TheVariants.{Named}
use Rattle.jcl_plan.specs.declared.fault.Cause.{Cause}
use Rattle.jcl_plan.specs.declared.fault.Cause.TheVariants.{N, P}
use Rattle.jcl_plan.specs.declared.fault.StatementFault.TheVariants.{BadValue, ExcludeOneAnother, KeywordTwice, LeftOut, OperandTooLong, UnknownKeyword}
use Rattle.jcl_plan.specs.declared.plan.Expiry.TheVariants as expiry
use Rattle.jcl_plan.specs.declared.plan.Status.TheVariants as status
use Rattle.jcl_plan.specs.declared.plan.Word.TheVariants as word
use Rattle.operand_core.specs.Faults.{told}
use Rattle.value_core.specs.declared.reference.DdReference.TheVariants as reference
use Rattle.value_core.specs.declared.set.SetName.TheVariants.{Null, Of}
use Rattle.value_core.specs.declared.set.VolumeName.TheVariants as volume
use Rattle.value_core.specs.Reads.{good}
use Rattle.jcl_cards.specs.declared.coded.Coded.TheVariants.{NotGiven, Nullified, Value}
use Rattle.jcl_dds.specs.declared.dd.DdCard.{DdCard}
use Rattle.jcl_dds.specs.declared.dd.Word.TheVariants.{Cards, Dummy}
use Rattle.jcl_dds.specs.DdCards.{dd_card}
use Rattle.jcl_dds.specs.Merging.{merged}

abbrev pub dd : List ℕ → Option Cause
dd operand = told (dd_card (codes "D") operand None).faults

-- a DD of which nothing is coded
abbrev pub empty_dd : List ℕ → DdCard
empty_dd name = record {
  qualifier = None;
  name = Some name;
  word = None;
  set_name = NotGiven;
  disposition = NotGiven;
  unit = NotGiven;
  volume = NotGiven;
  space = NotGiven;
  sysout = NotGiven;
  dd_name = NotGiven;
  label = NotGiven;
  control_blocks = NotGiven;
  character_set = NotGiven;
  forms_control = NotGiven;
  output_limit = NotGiven;
}

abbrev pub empty : DdCard
empty = empty_dd (codes "D")

pub record ReadsDds : Type 0 where
  pub set : dd_card (codes "D") (codes "DSN=A.B,DISP=(OLD,KEEP),UNIT=SYSDA,VOL=SER=VOL001,SPACE=(CYL,1),LABEL=RETPD=30,DCB=(*.C,RECFM=F),UCS=X") None
      ≡ good (record empty {
        set_name = Value (Of (Named (codes "A.B")));
        disposition = Value (record { status = status.Old; normal = Some word.Keep; conditional = None });
        unit = Value (codes "SYSDA");
        volume = Value (volume.Serial (codes "VOL001"));
        space = Value (record { primary = 20; secondary = 0; release = false });
        label = Value (expiry.DaysFromToday 30);
        control_blocks = Value (reference.Dd (codes "C") ∷ []);
        character_set = Value tt;
      })
  pub nothing : dd_card (codes "D") [] None ≡ good empty
  pub cards : dd_card [] (codes "*,DCB=BLKSIZE=80") (Some (replicate 80 65 ∷ []))
      ≡ good (record empty { name = None; word = Some (Cards (replicate 80 65 ∷ [])); control_blocks = Value [] })
  pub qualified : dd_card (codes "P1.D") (codes "DUMMY") None ≡ good (record empty { qualifier = Some (codes "P1"); word = Some Dummy })
  pub nullified : dd_card (codes "D") (codes "DSNAME=,SYSOUT=(A,,F)") None ≡ good (record empty { set_name = Nullified; sysout = Value 65 })
  pub sysout_of_four : dd (codes "SYSOUT=(A,B,C,D)") ≡ Some (P BadValue)
  pub two_spellings : dd (codes "DSN=A,DSNAME=B") ≡ Some (P KeywordTwice)
  pub of_a_volume : dd (codes "VOL=PRIVATE,VOLUME=RETAIN") ≡ Some (P KeywordTwice)
  pub two_words : dd (codes "*,DATA") ≡ Some (P ExcludeOneAnother)
  pub word_and_class : dd (codes "DUMMY,SYSOUT=A") ≡ Some (P ExcludeOneAnother)
  pub word_and_no_class : dd (codes "DUMMY,SYSOUT=") ≡ None
  pub word_and_name : dd (codes "DUMMY,DSN=A,DISP=OLD") ≡ None
  pub data_and_unit : dd (codes "DATA,UNIT=A") ≡ Some (P ExcludeOneAnother)
  pub data_and_forms : dd (codes "*,FCB=A") ≡ Some (P ExcludeOneAnother)
  pub data_and_forms_alone : dd (codes "DATA,UCS=,FCB=A,OUTLIM=") ≡ Some (P ExcludeOneAnother)
  pub later_dd : dd (codes "DDNAME=X,DCB=BLKSIZE=80") ≡ None
  pub later_dd_and_status : dd (codes "DDNAME=X,DISP=OLD") ≡ Some (P ExcludeOneAnother)
  pub class_and_status : dd (codes "SYSOUT=A,DISP=OLD") ≡ Some (P ExcludeOneAnother)
  pub class_and_unit : dd (codes "SYSOUT=A,UNIT=X,SPACE=(TRK,1)") ≡ None
  pub unknown_word : dd (codes "X") ≡ Some (P BadValue)
  pub dynamic : dd (codes "DYNAM") ≡ Some (P LeftOut)
  pub unknown : dd (codes "PGM=X") ≡ Some (P UnknownKeyword)
  pub left_out : dd (codes "AFF=X") ≡ Some (P LeftOut)
  pub names_first : told (dd_card (codes "P.9") (codes "X=1") None).faults ≡ Some (N 3)
  pub of_three_parts : told (dd_card (codes "A.B.C") [] None).faults ≡ Some (N 3)
  pub too_long : told (dd_card (codes "D") (replicate 1025 65) None).faults ≡ Some (P OperandTooLong)

abbrev pub of_set : DdCard
of_set = record empty { set_name = Value (Of (Named (codes "A"))) }

abbrev pub of_class : DdCard
of_class = record empty { sysout = Value 65 }

abbrev pub of_word : DdCard
of_word = record empty { word = Some Dummy }

abbrev pub of_dd : DdCard
of_dd = record empty { dd_name = Value (codes "X") }

abbrev pub on_unit : DdCard
on_unit = record empty { unit = Value (codes "U") }

abbrev pub of_form : DdCard
of_form = record empty { forms_control = Value tt }

-- an override of another name
abbrev pub other : DdCard
other = record empty { qualifier = Some (codes "P1"); name = Some (codes "E") }

pub record Merges : Type 0 where
  pub nothing : merged of_set other ≡ good of_set
  pub replaced : merged of_set (record other { set_name = Value (Of (Named (codes "B"))) }) ≡ good (record empty { set_name = Value (Of (Named (codes "B"))) })
  pub others_stay : merged of_set (record other { unit = Value (codes "U") }) ≡ good (record of_set { unit = Value (codes "U") })
  pub form_stays : merged of_form (record other { character_set = Nullified }) ≡ good of_form
  pub nullified : merged on_unit (record other { unit = Nullified }) ≡ good empty
  pub name_removes_dummy : merged of_word (record other { set_name = Value (Of (Named (codes "A"))) }) ≡ good of_set
  pub name_removes_class : merged of_class (record other { set_name = Value (Of (Named (codes "A"))) }) ≡ good of_set
  pub null_file : merged of_class (record other { set_name = Value Null }) ≡ good (record empty { set_name = Value Null })
  pub nullified_name_removes_nothing : merged of_word (record other { set_name = Nullified }) ≡ good of_word
  pub class_replaces_all : merged of_set (record other { sysout = Value 66; unit = Nullified }) ≡ good (record empty { sysout = Value 66 })
  pub word_replaces_all : merged on_unit (record other { word = Some Dummy }) ≡ good of_word
  pub later_dd_replaces_all : merged on_unit (record other { dd_name = Value (codes "X") }) ≡ good of_dd
  pub status_of_a_class : told (merged of_class (record other { disposition = Value (record { status = status.Old; normal = None; conditional = None }) })).faults
      ≡ Some (P ExcludeOneAnother)
  pub unit_of_a_later_dd : told (merged of_dd (record other { unit = Value (codes "U") })).faults ≡ Some (P ExcludeOneAnother)
  pub name_of_a_later_dd : told (merged of_dd (record other { set_name = Value (Of (Named (codes "A"))) })).faults ≡ Some (P ExcludeOneAnother)
