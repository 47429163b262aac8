-- Values of keywords, as they are read, and the faults that are told; more of them are in value_core's own examples. A reader's contract is
-- that it answers what its definition here reads. (value_core)
use Rattle.std.specs.Prelude.{◌≡◌, ℕ, ◌++◌, ◌∷◌, [], true, false, List, replicate, codes, Some, None}
use Rattle.jname_core.specs.declared.key.Key.TheVariants.{Named, Relative, Temporary}
use Rattle.jname_core.specs.declared.key.Sign.TheVariants.{Minus, Plus}
use Rattle.jcl_plan.specs.declared.fault.Cause.TheVariants.{N, P}
use Rattle.jcl_plan.specs.declared.fault.StatementFault.TheVariants.{BadValue, ExcludeOneAnother, KeywordTwice, LeftOut, MemberName}
use Rattle.jcl_plan.specs.declared.plan.ConditionalWord.TheVariants as conditional
use Rattle.jcl_plan.specs.declared.plan.Expiry.TheVariants as expiry
use Rattle.jcl_plan.specs.declared.plan.Status.TheVariants as status
use Rattle.jcl_plan.specs.declared.plan.Word.TheVariants as word
use Rattle.operand_core.specs.Faults.{told}
use Rattle.value_core.specs.declared.reference.DdReference.TheVariants as dd
use Rattle.value_core.specs.declared.reference.StepReference.TheVariants as step
use Rattle.value_core.specs.declared.set.SetName.TheVariants as name
use Rattle.value_core.specs.declared.set.VolumeName.TheVariants as volume
use Rattle.value_core.specs.Dispositions.{disposition}
use Rattle.value_core.specs.Labels.{label, label_faults}
use Rattle.value_core.specs.Parms.{parm_faults}
use Rattle.value_core.specs.Reads.{good}
use Rattle.value_core.specs.References.{dd_reference, step_reference}
use Rattle.value_core.specs.SetNames.{set_name}
use Rattle.value_core.specs.Spaces.{space}
use Rattle.value_core.specs.Units.{unit}
use Rattle.value_core.specs.VolumeNames.{volume_name}

-- 44 and 45 characters
abbrev pub longest_name : List ℕ
longest_name = codes "ABCDEFGH.ABCDEFGH.ABCDEFGH.ABCDEFGH.ABCDEFGH"

abbrev pub longer_name : List ℕ
longer_name = codes "ABCDEFGH.ABCDEFGH.ABCDEFGH.ABCDEFGH.ABCDEF.HI"

-- bases of 35 and 36 characters, and an amount
abbrev pub longest_base : List ℕ
longest_base = codes "ABCDEFGH.ABCDEFGH.ABCDEFGH.ABCDEFGH(0)"

abbrev pub longer_base : List ℕ
longer_base = codes "ABCDEFGH.ABCDEFGH.ABCDEFGH.ABCDEF.HI(0)"

-- References to DDs and to steps: `dd_reference` and `step_reference` answer these.
pub record ReadsReferences : Type 0 where
  pub dd_alone : dd_reference (codes "*.#1") ≡ good (dd.Dd (codes "#1"))
  pub dd_of_step : dd_reference (codes "*.STEPNAME.#1") ≡ good (dd.OfStep (codes "STEPNAME") (codes "#1"))
  pub dd_of_procedure_step : dd_reference (codes "*.STEPNAME.P.#1") ≡ good (dd.OfProcedureStep (codes "STEPNAME") (codes "P") (codes "#1"))
  pub step_alone : step_reference (codes "STEPNAME") ≡ good (step.Step (codes "STEPNAME"))
  pub procedure_step : step_reference (codes "STEPNAME.P") ≡ good (step.ProcedureStep (codes "STEPNAME") (codes "P"))

-- The faults of references that are told.
pub record RefusesReferences : Type 0 where
  pub no_name : told (dd_reference (codes "*.")).faults ≡ Some (N 1)
  pub no_last_name : told (dd_reference (codes "*.A.B.")).faults ≡ Some (N 1)
  pub long_step : told (dd_reference (codes "*.STEPNAMES.X")).faults ≡ Some (N 2)
  pub bad_dd : told (dd_reference (codes "*.A.1")).faults ≡ Some (N 3)
  pub bad_step_and_long_dd : told (dd_reference (codes "*.1.STEPNAMES")).faults ≡ Some (N 2)
  pub four_parts_of_names : told (dd_reference (codes "*.A.B.C.D")).faults ≡ Some (P BadValue)
  pub five_parts_with_a_bad_name : told (dd_reference (codes "*.A.B.C.1")).faults ≡ Some (N 3)
  pub six_parts_with_empty_names : told (dd_reference (codes "*.A.B.C.D..")).faults ≡ Some (N 1)
  pub no_step : told (step_reference []).faults ≡ Some (N 1)
  pub no_procedure_step : told (step_reference (codes "A.")).faults ≡ Some (N 1)
  pub long_procedure_step : told (step_reference (codes "A.STEPNAMES")).faults ≡ Some (N 2)
  pub bad_step : told (step_reference (codes "A-B")).faults ≡ Some (N 3)
  pub three_steps : told (step_reference (codes "A.B.C")).faults ≡ Some (P BadValue)
  pub three_steps_with_a_bad_name : told (step_reference (codes "A.B.1C")).faults ≡ Some (N 3)

-- DISP: `disposition` answers this.
pub record ReadsDispositions : Type 0 where
  pub old : disposition (codes "OLD") ≡ good (record { status = status.Old; normal = None; conditional = None })
  pub keep_alone : disposition (codes "(,KEEP)") ≡ good (record { status = status.New; normal = Some word.Keep; conditional = None })
  pub mod_and_pass : disposition (codes "(MOD,PASS)") ≡ good (record { status = status.Mod; normal = Some word.Pass; conditional = None })
  pub conditional_alone : disposition (codes "(SHR,,UNCATLG)") ≡ good (record { status = status.Shr; normal = None; conditional = Some conditional.Uncatlg })
  pub all_words : disposition (codes "(NEW,UNCATLG,KEEP)") ≡ good (record { status = status.New; normal = Some word.Uncatlg; conditional = Some conditional.Keep })
  pub no_status : told (disposition (codes "NEWS")).faults ≡ Some (P BadValue)
  pub word_as_a_status : told (disposition (codes "KEEP")).faults ≡ Some (P BadValue)
  pub two_statuses : told (disposition (codes "(OLD,NEW)")).faults ≡ Some (P BadValue)
  pub four_places : told (disposition (codes "(OLD,,,)")).faults ≡ Some (P BadValue)
  pub open_parenthesis : told (disposition (codes "(OLD,KEEP")).faults ≡ Some (P BadValue)

-- UNIT: `unit` answers this.
pub record ReadsUnits : Type 0 where
  pub number : unit (codes "2314") ≡ good (codes "2314")
  pub with_a_count : unit (codes "(DISKUNIT,2)") ≡ good (codes "DISKUNIT")
  pub empty : told (unit []).faults ≡ Some (N 1)
  pub no_name : told (unit (codes "(,1)")).faults ≡ Some (N 1)
  pub long_name : told (unit (codes "DISKUNITS")).faults ≡ Some (N 2)
  pub bad_name : told (unit (codes "DISK-1")).faults ≡ Some (N 3)
  pub affinity_in_parentheses : told (unit (codes "(AFF=X,DEFER)")).faults ≡ Some (P LeftOut)

-- LABEL
pub record ReadsLabels : Type 0 where
  pub day : label (codes "EXPDT=75001") ≡ good (expiry.Day 27393)
  pub last_day_of_1900 : label (codes "EXPDT=00365") ≡ good (expiry.Day 364)
  pub no_leap_day_in_1900 : told (label_faults (codes "EXPDT=00366")) ≡ Some (P BadValue)
  pub leap_day : label (codes "EXPDT=1976/366") ≡ good (expiry.Day 28123)
  pub last_of_all : label (codes "EXPDT=2155/365") ≡ good (expiry.Day 93501)
  pub past_the_last : told (label_faults (codes "EXPDT=2156/001")) ≡ Some (P BadValue)
  pub before_the_first : told (label_faults (codes "EXPDT=1899/365")) ≡ Some (P BadValue)
  pub no_day_kept : label (codes "RETPD=0") ≡ good (expiry.DaysFromToday 0)
  pub longest_period : label (codes "RETPD=9999") ≡ good (expiry.DaysFromToday 9999)
  pub of_five_places : label (codes "(1,SL,NOPWREAD,OUT,EXPDT=75100)") ≡ good (expiry.Day 27492)
  pub period_alone : label (codes "(,RETPD=30)") ≡ good (expiry.DaysFromToday 30)
  pub day_0 : told (label_faults (codes "EXPDT=75000")) ≡ Some (P BadValue)
  pub four_digits : told (label_faults (codes "EXPDT=7510")) ≡ Some (P BadValue)
  pub six_digits : told (label_faults (codes "EXPDT=751000")) ≡ Some (P BadValue)
  pub no_period : told (label_faults (codes "RETPD=")) ≡ Some (P BadValue)
  pub period_10000 : told (label_faults (codes "RETPD=10000")) ≡ Some (P BadValue)
  pub letter : told (label_faults (codes "RETPD=1A")) ≡ Some (P BadValue)
  pub no_keyword : told (label_faults (codes "SL")) ≡ Some (P BadValue)
  pub of_six_places : told (label_faults (codes "(1,SL,,IN,,RETPD=1)")) ≡ Some (P BadValue)
  pub keyword_not_last : told (label_faults (codes "(RETPD=1,SL)")) ≡ Some (P BadValue)
  pub period_twice_and_day : told (label_faults (codes "(RETPD=1,EXPDT=75100,RETPD=1)")) ≡ Some (P KeywordTwice)
  pub period_and_day : told (label_faults (codes "(RETPD=1,EXPDT=75100)")) ≡ Some (P ExcludeOneAnother)
  pub other_keyword : told (label_faults (codes "(RETPD=1,OTHER=1)")) ≡ Some (P BadValue)

-- PARM: `parm_fault` tells this.
pub record CountsParameters : Type 0 where
  pub none : parm_faults [] ≡ []
  pub of_100 : parm_faults (replicate 100 65) ≡ []
  pub in_apostrophes : parm_faults (39 ∷ (replicate 100 65 ++ 39 ∷ [])) ≡ []
  pub in_parentheses : parm_faults (40 ∷ (replicate 100 65 ++ 41 ∷ [])) ≡ []
  pub doubled_apostrophes : parm_faults (40 ∷ (replicate 200 39 ++ 41 ∷ [])) ≡ []

-- SPACE: `space` answers this.
pub record ReadsSpaces : Type 0 where
  pub tracks_4000 : space (codes "(TRK,4000)") ≡ good (record { primary = 4000; secondary = 0; release = false })
  pub secondary_and_release : space (codes "(TRK,(0,4000),RLSE)") ≡ good (record { primary = 0; secondary = 4000; release = true })
  pub cylinders_200 : space (codes "(CYL,200)") ≡ good (record { primary = 4000; secondary = 0; release = false })
  pub secondary_0 : space (codes "(CYL,(1,0))") ≡ good (record { primary = 20; secondary = 0; release = false })
  pub blocks_of_a_track : space (codes "(7294,(4000,1))") ≡ good (record { primary = 4000; secondary = 1; release = false })
  pub two_blocks_of_a_track : space (codes "(7293,2)") ≡ good (record { primary = 2; secondary = 0; release = false })
  pub bytes_of_a_track : space (codes "(1,7294)") ≡ good (record { primary = 1; secondary = 0; release = false })
  pub one_byte_more : space (codes "(1,7295)") ≡ good (record { primary = 2; secondary = 0; release = false })
  pub bytes_of_4000_tracks : space (codes "(1,29176000)") ≡ good (record { primary = 4000; secondary = 0; release = false })
  pub leading_zeros : space (codes "(TRK,(007,08))") ≡ good (record { primary = 7; secondary = 8; release = false })

-- The faults of SPACE that are told.
pub record RefusesSpaces : Type 0 where
  pub no_quantity : told (space (codes "(TRK)")).faults ≡ Some (P BadValue)
  pub secondary_4001 : told (space (codes "(TRK,(1,4001))")).faults ≡ Some (P BadValue)
  pub cylinders_201 : told (space (codes "(CYL,201)")).faults ≡ Some (P BadValue)
  pub one_byte_too_many : told (space (codes "(1,29176001)")).faults ≡ Some (P BadValue)
  pub blocks_of_no_length : told (space (codes "(0,1)")).faults ≡ Some (P BadValue)
  pub empty_quantity : told (space (codes "(TRK,)")).faults ≡ Some (P BadValue)
  pub letter : told (space (codes "(TRK,1A)")).faults ≡ Some (P BadValue)
  pub very_large : told (space (codes "(TRK,99999999999999999999999999999999999999999999999999)")).faults ≡ Some (P BadValue)
  pub four_quantities : told (space (codes "(TRK,(1,1,1,1))")).faults ≡ Some (P BadValue)
  pub no_primary : told (space (codes "(TRK,(,1,1))")).faults ≡ Some (P BadValue)
  pub release_in_the_third_place : told (space (codes "(TRK,1,,RLSE)")).faults ≡ Some (P BadValue)
  pub release_twice : told (space (codes "(TRK,1,RLSE,RLSE)")).faults ≡ Some (P BadValue)
  pub many_places : told (space (codes "(TRK,1,,,,,)")).faults ≡ Some (P BadValue)
  pub other_unit : told (space (codes "(BLK,1,CONTIG)")).faults ≡ Some (P BadValue)
  pub directory_and_secondary : told (space (codes "(TRK,(1,2,1))")).faults ≡ Some (P LeftOut)
  pub mixed : told (space (codes "(TRK,1,,MXIG)")).faults ≡ Some (P LeftOut)
  pub round : told (space (codes "(TRK,1,,,ROUND)")).faults ≡ Some (P LeftOut)
  pub all_extents : told (space (codes "(TRK,1,ALX)")).faults ≡ Some (P LeftOut)
  pub absolute : told (space (codes "(ABSTR)")).faults ≡ Some (P LeftOut)

-- DSNAME: `set_name` answers this.
pub record ReadsSetNames : Type 0 where
  pub longest : set_name longest_name ≡ good (name.Of (Named longest_name))
  pub temporary : set_name (codes "&&TEMPNAME") ≡ good (name.Of (Temporary (codes "TEMPNAME")))
  pub one_ampersand : set_name (codes "&TEMPNAME") ≡ good (name.Of (Temporary (codes "TEMPNAME")))
  pub of_a_dd : set_name (codes "*.X") ≡ good (name.OfDd (dd.Dd (codes "X")))
  pub farthest : set_name (codes "PAY.G(+255)") ≡ good (name.Of (Relative (codes "PAY.G") Plus 255))
  pub farthest_before : set_name (codes "PAY.G(-0255)") ≡ good (name.Of (Relative (codes "PAY.G") Minus 255))
  pub newest_by_two_digits : set_name (codes "PAY.G(00)") ≡ good (name.Of (Relative (codes "PAY.G") Plus 0))
  pub of_the_longest_base : told (set_name longest_base).faults ≡ None

-- The faults of DSNAME that are told.
pub record RefusesSetNames : Type 0 where
  pub empty : told (set_name []).faults ≡ Some (N 1)
  pub too_long : told (set_name longer_name).faults ≡ Some (N 2)
  pub base_too_long : told (set_name longer_base).faults ≡ Some (N 2)
  pub long_temporary : told (set_name (codes "&&TEMPORARY")).faults ≡ Some (N 2)
  pub temporary_begins_with_a_digit : told (set_name (codes "&1")).faults ≡ Some (N 3)
  pub number_0 : told (set_name (codes "A.G0000V00")).faults ≡ Some (N 4)
  pub too_far : told (set_name (codes "A(+256)")).faults ≡ Some (N 4)
  pub too_far_without_a_sign : told (set_name (codes "A(256)")).faults ≡ Some (N 4)
  pub very_far : told (set_name (codes "A(-99999999999999999999999999999999999999)")).faults ≡ Some (N 4)
  pub without_a_sign : told (set_name (codes "A(1)")).faults ≡ Some (P BadValue)
  pub no_amount : told (set_name (codes "A(+)")).faults ≡ Some (P BadValue)
  pub letter_behind_the_amount : told (set_name (codes "A(+1X)")).faults ≡ Some (P BadValue)
  pub of_nothing : told (set_name (codes "A()")).faults ≡ Some (P BadValue)
  pub long_member : told (set_name (codes "A(MEMBERXYZ)")).faults ≡ Some (P BadValue)
  pub relative_temporary : told (set_name (codes "&&T(+1)")).faults ≡ Some (P BadValue)
  pub temporary_of_nothing : told (set_name (codes "&&T()")).faults ≡ Some (P BadValue)
  pub of_a_member : told (set_name (codes "A(MEM)")).faults ≡ Some (P MemberName)
  pub temporary_of_a_member : told (set_name (codes "&&T(MEM)")).faults ≡ Some (P MemberName)
  pub empty_component_before_a_member : told (set_name (codes "A..B(MEM)")).faults ≡ Some (N 1)

-- VOLUME: `volume_name` answers this.
pub record ReadsVolumes : Type 0 where
  pub serial_in_parentheses : volume_name (codes "SER=(VOL001)") ≡ good (volume.Serial (codes "VOL001"))
  pub behind_words : volume_name (codes "(PRIVATE,RETAIN,1,,SER=VOL001)") ≡ good (volume.Serial (codes "VOL001"))
  pub of_a_dd : volume_name (codes "(,,REF=*.S.X)") ≡ good (volume.OfDd (dd.OfStep (codes "S") (codes "X")))
  pub retained : volume_name (codes "(RETAIN,12)") ≡ good volume.Any
  pub nothing : volume_name [] ≡ good volume.Any
  pub of_the_longest_name : volume_name (codes "REF=" ++ longest_name) ≡ good (volume.OfName longest_name)

-- The faults of VOLUME that are told.
pub record RefusesVolumes : Type 0 where
  pub empty_serial_behind : told (volume_name (codes "SER=(A,)")).faults ≡ Some (P BadValue)
  pub no_serial : told (volume_name (codes "SER=")).faults ≡ Some (P BadValue)
  pub period : told (volume_name (codes "SER=A.B")).faults ≡ Some (P BadValue)
  pub of_a_temporary : told (volume_name (codes "REF=&&T")).faults ≡ Some (P BadValue)
  pub of_an_empty_component : told (volume_name (codes "REF=A..B")).faults ≡ Some (N 1)
  pub of_a_long_step : told (volume_name (codes "REF=*.STEPNAMES.X")).faults ≡ Some (N 2)
  pub of_four_parts : told (volume_name (codes "REF=*.A.B.C.D")).faults ≡ Some (P BadValue)
  pub other_word : told (volume_name (codes "PRIVATELY")).faults ≡ Some (P BadValue)
  pub other_keyword : told (volume_name (codes "(1,OTHER=1)")).faults ≡ Some (P BadValue)
  pub serial_twice : told (volume_name (codes "(SER=A,SER=A)")).faults ≡ Some (P KeywordTwice)
  pub serial_and_reference : told (volume_name (codes "(SER=A,REF=A.B)")).faults ≡ Some (P ExcludeOneAnother)
  pub serial_twice_and_bad_name : told (volume_name (codes "(SER=A,SER=A,REF=1)")).faults ≡ Some (N 3)
