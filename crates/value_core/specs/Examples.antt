-- Values and what they mean, or the fault that is told. (This profile)
use Rattle.std.specs.Prelude.{◌≡◌, true, false, [], ◌∷◌, ◌++◌, codes, replicate, Some, None}
use Rattle.jname_core.specs.declared.key.Key.TheVariants.{Named, Relative, Temporary}
use Rattle.jname_core.specs.declared.key.Sign.TheVariants.{Plus, Minus}
use Rattle.jcl_plan.specs.declared.fault.Cause.TheVariants.{N, P}
use Rattle.jcl_plan.specs.declared.fault.StatementFault.TheVariants.{BadValue, ExcludeOneAnother, KeywordTwice, LeftOut, MemberName, SeveralSerials}
use Rattle.jcl_plan.specs.declared.plan.ConditionalWord.TheVariants as conditional
use Rattle.jcl_plan.specs.declared.plan.Status.TheVariants as status
use Rattle.jcl_plan.specs.declared.plan.Word.TheVariants as word
use Rattle.operand_core.specs.Faults.{told}
use Rattle.value_core.specs.declared.reference.DdReference.TheVariants as dd
use Rattle.value_core.specs.declared.set.SetName.TheVariants as name
use Rattle.value_core.specs.declared.set.VolumeName.TheVariants as volume
use Rattle.value_core.specs.Dispositions.{disposition}
use Rattle.jcl_plan.specs.declared.plan.Expiry.TheVariants as expiry
use Rattle.value_core.specs.Labels.{label, label_faults}
use Rattle.value_core.specs.Parms.{parm_faults}
use Rattle.value_core.specs.Reads.{good}
use Rattle.value_core.specs.SetNames.{set_name}
use Rattle.value_core.specs.Spaces.{space}
use Rattle.value_core.specs.Units.{unit}
use Rattle.value_core.specs.VolumeNames.{volume_name}

pub record ReadsNames : Type 0 where
  pub plain : set_name (codes "PAY-ROLL.DATA-1") ≡ good (name.Of (Named (codes "PAY-ROLL.DATA-1")))
  pub null : set_name (codes "NULLFILE") ≡ good name.Null
  pub of_a_dd : set_name (codes "*.S1.P1.OUT") ≡ good (name.OfDd (dd.OfProcedureStep (codes "S1") (codes "P1") (codes "OUT")))
  pub temporary : set_name (codes "&&TEMP") ≡ good (name.Of (Temporary (codes "TEMP")))
  pub one_ampersand : set_name (codes "&TEMP") ≡ good (name.Of (Temporary (codes "TEMP")))
  pub next : set_name (codes "PAY.G(+1)") ≡ good (name.Of (Relative (codes "PAY.G") Plus 1))
  pub before : set_name (codes "PAY.G(-010)") ≡ good (name.Of (Relative (codes "PAY.G") Minus 10))
  pub newest : set_name (codes "PAY.G(0)") ≡ good (name.Of (Relative (codes "PAY.G") Plus 0))
  pub newest_before : set_name (codes "PAY.G(-0)") ≡ good (name.Of (Relative (codes "PAY.G") Plus 0))
  pub begins_with_a_hyphen : told (set_name (codes "-PAY.DATA")).faults ≡ Some (N 3)
  pub too_far : told (set_name (codes "PAY.G(+256)")).faults ≡ Some (N 4)
  pub without_a_sign : told (set_name (codes "PAY.G(1)")).faults ≡ Some (P BadValue)
  pub of_a_member : told (set_name (codes "A.B(MEM)")).faults ≡ Some (P MemberName)
  pub of_nothing : told (set_name (codes "A.B()")).faults ≡ Some (P BadValue)
  pub not_at_the_end : told (set_name (codes "A(M)X")).faults ≡ Some (N 3)
  pub version : told (set_name (codes "A.G0001V01")).faults ≡ Some (N 4)
  pub in_apostrophes : told (set_name (codes "'A.B'")).faults ≡ Some (N 3)
  pub empty_component : told (set_name (codes "A..B")).faults ≡ Some (N 1)
  pub four_parts : told (set_name (codes "*.A.B.C.D")).faults ≡ Some (P BadValue)
  pub base_of_35 : told (set_name (codes "ABCDEFGH.ABCDEFGH.ABCDEFGH.ABCDEFGH(0)")).faults ≡ None
  pub base_of_36 : told (set_name (codes "ABCDEFG.ABCDEFG.ABCDEFG.ABCDEFG.ABCD(0)")).faults ≡ Some (N 2)

pub record ReadsVolumes : Type 0 where
  pub serial : volume_name (codes "SER=VOL001") ≡ good (volume.Serial (codes "VOL001"))
  pub in_parentheses : volume_name (codes "(PRIVATE,RETAIN,1,SER=(VOL001))") ≡ good (volume.Serial (codes "VOL001"))
  pub of_a_name : volume_name (codes "REF=R.SET") ≡ good (volume.OfName (codes "R.SET"))
  pub of_a_dd : volume_name (codes "REF=*.X") ≡ good (volume.OfDd (dd.Dd (codes "X")))
  pub private : volume_name (codes "PRIVATE") ≡ good volume.Any
  pub two_serials : told (volume_name (codes "SER=(A,B)")).faults ≡ Some (P SeveralSerials)
  pub bad_serial : told (volume_name (codes "SER=VOL0001")).faults ≡ Some (P BadValue)
  pub relative : told (volume_name (codes "REF=A(+1)")).faults ≡ Some (P BadValue)
  pub twice : told (volume_name (codes "(SER=A,SER=B)")).faults ≡ Some (P KeywordTwice)
  pub both : told (volume_name (codes "(SER=A,REF=B)")).faults ≡ Some (P ExcludeOneAnother)

pub record ReadsSpaces : Type 0 where
  pub tracks : space (codes "(TRK,3)") ≡ good (record { primary = 3; secondary = 0; release = false })
  pub more : space (codes "(TRK,(0,2),RLSE)") ≡ good (record { primary = 0; secondary = 2; release = true })
  pub cylinders : space (codes "(CYL,(2,1))") ≡ good (record { primary = 40; secondary = 20; release = false })
  pub blocks : space (codes "(80,(100,1))") ≡ good (record { primary = 2; secondary = 1; release = false })
  pub too_many : told (space (codes "(TRK,4001)")).faults ≡ Some (P BadValue)
  pub empty_quantity : told (space (codes "(TRK,(5,))")).faults ≡ Some (P BadValue)
  pub empty_place : told (space (codes "(TRK,5,)")).faults ≡ Some (P BadValue)
  pub directory : told (space (codes "(TRK,(1,,1))")).faults ≡ Some (P LeftOut)
  pub empty_directory : told (space (codes "(TRK,(1,1,))")).faults ≡ Some (P BadValue)
  pub contiguous : told (space (codes "(TRK,1,,CONTIG)")).faults ≡ Some (P LeftOut)
  pub absolute : told (space (codes "(ABSTR,(1,1))")).faults ≡ Some (P LeftOut)
  pub long_block : told (space (codes "(7295,1)")).faults ≡ Some (P BadValue)
  pub alone : told (space (codes "TRK")).faults ≡ Some (P BadValue)

pub record ReadsOthers : Type 0 where
  pub all_words : disposition (codes "(NEW,CATLG,DELETE)") ≡ good (record {
    status = status.New;
    normal = Some word.Catlg;
    conditional = Some conditional.Delete;
  })
  pub no_words : disposition (codes "()") ≡ good (record { status = status.New; normal = None; conditional = None })
  pub status_alone : disposition (codes "SHR") ≡ good (record { status = status.Shr; normal = None; conditional = None })
  pub passed_after_abend : told (disposition (codes "(OLD,KEEP,PASS)")).faults ≡ Some (P BadValue)
  pub four_words : told (disposition (codes "(OLD,KEEP,KEEP,KEEP)")).faults ≡ Some (P BadValue)
  pub unit_name : unit (codes "(SYSDA,1,DEFER)") ≡ good (codes "SYSDA")
  pub affinity : told (unit (codes "AFF=X")).faults ≡ Some (P LeftOut)
  pub long_unit : told (unit (codes "SYSDA0001")).faults ≡ Some (N 2)
  pub day : label (codes "EXPDT=75100") ≡ good (expiry.Day 27492)
  pub slashed_day : label (codes "EXPDT=2155/365") ≡ good (expiry.Day 93501)
  pub period : label (codes "(1,SL,,IN,RETPD=0030)") ≡ good (expiry.DaysFromToday 30)
  pub long_period : told (label_faults (codes "RETPD=00001")) ≡ Some (P BadValue)
  pub no_leap_day : told (label_faults (codes "EXPDT=75366")) ≡ Some (P BadValue)
  pub early_year : told (label_faults (codes "EXPDT=1899/001")) ≡ Some (P BadValue)
  pub no_digits : told (label_faults (codes "RETPD=")) ≡ Some (P BadValue)
  pub no_day : told (label_faults (codes "EXPDT=75367")) ≡ Some (P BadValue)
  pub no_label : told (label_faults (codes "(1,SL)")) ≡ Some (P BadValue)
  pub two_labels : told (label_faults (codes "(EXPDT=75100,RETPD=1)")) ≡ Some (P ExcludeOneAnother)
  pub one_label_twice : told (label_faults (codes "(RETPD=1,RETPD=1)")) ≡ Some (P KeywordTwice)
  pub hundred : parm_faults (39 ∷ (replicate 100 65 ++ (39 ∷ []))) ≡ []
  pub over : told (parm_faults (replicate 101 65)) ≡ Some (P BadValue)
  pub doubled : parm_faults (40 ∷ (39 ∷ (replicate 99 65 ++ codes "''')"))) ≡ []
