-- Each refusal of a deck at its edge, and which of two is told. `job_of` answers this. (jcl_job)
use Rattle.std.specs.Prelude.{◌≡◌, ◌++◌, [], Some, None}
use Rattle.jcl_plan.specs.declared.fault.Cause.TheVariants.{C, N, P}
use Rattle.jcl_plan.specs.declared.fault.StatementFault.TheVariants.{BadValue, CardsInProcedure, DdBeforeExec, ExcludeOneAnother, ForwardReference, KeywordTwice, LeftOut, MemberName, MissingName, MissingPend, NoStep, NoSuchProcedure, NoSuchProcedureStep, NotOneJob, NotOneProgram, NothingToContinue, OverrideOutOfOrder, ProcedureCallsProcedure, ReferenceToNothing, SeveralSerials, SymbolWithoutValue, TestOfNoEarlierStep, TooManyDdNames, TooManyPositional, TooManyProcedures, TooManyTests, UnbalancedParentheses, UnknownKeyword, UnknownOperation, UnknownUnit}
use Rattle.jcl_rows.specs.Jobs.{cards, refusal, times}

-- Faults of cards, and of names.
pub record RefusesCardsAndNames : Type 0 where
  pub of_80_columns : refusal (cards "//S EXEC PGM=X\n//D DD DUMMY                                                                    ") ≡ None
  pub of_81_columns : refusal (cards "//S EXEC PGM=X\n//D DD DUMMY                                                                     ") ≡ Some (C 1)
  pub last_printable : refusal (cards "//S EXEC PGM=X\n//D DD DUMMY ~") ≡ None
  pub not_printable : refusal (cards "//S EXEC PGM=X\n//D DD DUMMY \u{7f}") ≡ Some (C 2)
  pub continued : refusal (cards "//S EXEC PGM=X\n//D DD DUMMY,\n//  DCB=A") ≡ None
  pub not_continued : refusal (cards "//S EXEC PGM=X\n//D DD DUMMY,") ≡ Some (C 3)
  pub comment_between : refusal (cards "//S EXEC PGM=X\n//D DD DUMMY,\n//* A\n//  DCB=A") ≡ Some (C 3)
  pub resumed_in_16 : refusal (cards "//S EXEC PGM=X\n//D DD DUMMY,\n//             DCB=A") ≡ None
  pub resumed_in_17 : refusal (cards "//S EXEC PGM=X\n//D DD DUMMY,\n//              DCB=A") ≡ Some (C 4)
  pub doubled_apostrophe : refusal (cards "//S EXEC PGM=X,PARM='A''B'") ≡ None
  pub open_apostrophe : refusal (cards "//S EXEC PGM=X,PARM='A''B") ≡ Some (C 5)
  pub no_operation : refusal (cards "//S EXEC PGM=X\n//D") ≡ Some (C 6)
  pub data_before_exec : refusal (cards "A\n//S EXEC PGM=X") ≡ Some (C 7)
  pub no_program : refusal (cards "//S EXEC PGM=") ≡ Some (N 1)
  pub program_of_8 : refusal (cards "//S EXEC PGM=ABCDEFGH") ≡ None
  pub program_of_9 : refusal (cards "//S EXEC PGM=ABCDEFGHI") ≡ Some (N 2)
  pub program_begins_with_a_digit : refusal (cards "//S EXEC PGM=9A") ≡ Some (N 3)
  pub generation : refusal (cards "//S EXEC PGM=X\n//D DD DSN=A.G0001V00") ≡ None
  pub generation_of_number_0 : refusal (cards "//S EXEC PGM=X\n//D DD DSN=A.G0000V00") ≡ Some (N 4)
  pub generation_of_version_1 : refusal (cards "//S EXEC PGM=X\n//D DD DSN=A.G0001V01") ≡ Some (N 4)
  pub farthest : refusal (cards "//S EXEC PGM=X\n//D DD DSN=A(+255)") ≡ None
  pub too_far : refusal (cards "//S EXEC PGM=X\n//D DD DSN=A(+256)") ≡ Some (N 4)

-- Faults of statements.
pub record RefusesStatements : Type 0 where
  pub two_jobs : refusal (cards "//S EXEC PGM=X\n//K JOB 1") ≡ Some (P NotOneJob)
  pub procedure_without_a_name : refusal (cards "// PROC\n//A EXEC PGM=X\n// PEND\n//S EXEC PGM=X") ≡ Some (P MissingName)
  pub unknown_operation : refusal (cards "//S EXEC PGM=X\n//D DUMMY X") ≡ Some (P UnknownOperation)
  pub pend_of_nothing : refusal (cards "//S EXEC PGM=X\n// PEND") ≡ Some (P UnknownOperation)
  pub unknown_keyword : refusal (cards "//S EXEC PGM=X,PGN=Y") ≡ Some (P UnknownKeyword)
  pub program_twice : refusal (cards "//S EXEC PGM=X,PGM=Y") ≡ Some (P KeywordTwice)
  pub name_twice : refusal (cards "//S EXEC PGM=X\n//D DD DSN=A,DSNAME=B") ≡ Some (P KeywordTwice)
  pub greatest_code : refusal (cards "//S EXEC PGM=X,COND=(4095,LT)") ≡ None
  pub code_too_great : refusal (cards "//S EXEC PGM=X,COND=(4096,LT)") ≡ Some (P BadValue)
  pub word_and_class : refusal (cards "//S EXEC PGM=X\n//D DD DUMMY,SYSOUT=A") ≡ Some (P ExcludeOneAnother)
  pub even_and_only : refusal (cards "//S EXEC PGM=X,COND=(EVEN,ONLY)") ≡ Some (P ExcludeOneAnother)
  pub open_parenthesis : refusal (cards "//S EXEC PGM=X,COND=((0,EQ)") ≡ Some (P UnbalancedParentheses)
  pub two_positional : refusal (cards "//S EXEC X,Y") ≡ Some (P TooManyPositional)
  pub no_program_and_no_procedure : refusal (cards "//S EXEC COND=EVEN") ≡ Some (P NotOneProgram)
  pub program_and_procedure : refusal (cards "//S EXEC X,PGM=Y") ≡ Some (P NotOneProgram)
  pub no_step : refusal [] ≡ Some (P NoStep)
  pub dd_before_exec : refusal (cards "//D DD DUMMY\n//S EXEC PGM=X") ≡ Some (P DdBeforeExec)
  pub job_library : refusal (cards "//JOBLIB DD DUMMY\n// DD DUMMY\n//S EXEC PGM=X") ≡ None

-- Tests, data, concatenations, units, values and procedures.
pub record RefusesForms : Type 0 where
  pub tests_8 : refusal (cards "//S EXEC PGM=X,COND=((0,EQ),(0,EQ),(0,EQ),(0,EQ),\n// (0,EQ),(0,EQ),(0,EQ),(0,EQ))") ≡ None
  pub tests_9 : refusal (cards "//S EXEC PGM=X,COND=((0,EQ),(0,EQ),(0,EQ),(0,EQ),\n// (0,EQ),(0,EQ),(0,EQ),(0,EQ),(0,EQ))") ≡ Some (P TooManyTests)
  pub tests_8_and_even : refusal (cards "//S EXEC PGM=X,COND=((0,EQ),(0,EQ),(0,EQ),(0,EQ),\n// (0,EQ),(0,EQ),(0,EQ),(0,EQ),EVEN)") ≡ None
  pub cards_in_a_procedure : refusal (cards "//S EXEC DATA") ≡ Some (P CardsInProcedure)
  pub nothing_to_continue : refusal (cards "//S EXEC PGM=X\n// DD DUMMY") ≡ Some (P NothingToContinue)
  pub continued_dd : refusal (cards "//S EXEC PGM=X\n//D DD DUMMY\n// DD DUMMY") ≡ None
  pub known_unit : refusal (cards "//S EXEC PGM=X\n//D DD DUMMY,UNIT=SYSDA") ≡ None
  pub unknown_unit : refusal (cards "//S EXEC PGM=X\n//D DD DUMMY,UNIT=TAPE") ≡ Some (P UnknownUnit)
  pub two_serials : refusal (cards "//S EXEC PGM=X\n//D DD DUMMY,VOL=SER=(A,B)") ≡ Some (P SeveralSerials)
  pub member : refusal (cards "//S EXEC PGM=X\n//D DD DSN=A(M)") ≡ Some (P MemberName)
  pub left_out_keyword : refusal (cards "//S EXEC PGM=X,DPRTY=1") ≡ Some (P LeftOut)
  pub left_out_form : refusal (cards "//S EXEC PGM=X\n//D DD DUMMY,SPACE=(TRK,1,,CONTIG)") ≡ Some (P LeftOut)
  pub no_such_procedure : refusal (cards "//S EXEC NONE") ≡ Some (P NoSuchProcedure)
  pub procedure_calls_one : refusal (cards "//S EXEC CALLS") ≡ Some (P ProcedureCallsProcedure)

-- Procedures, overrides and symbols.
pub record RefusesProcedures : Type 0 where
  pub no_step_and_no_pend : refusal (cards "//A PROC\n//S EXEC PGM=X\n//T EXEC PGM=X") ≡ Some (P NoStep)
  pub missing_pend : refusal (cards "//S EXEC PGM=X\n//A PROC\n//T EXEC PGM=X") ≡ Some (P MissingPend)
  pub procedure_within : refusal (cards "//A PROC\n//B PROC\n// PEND\n//S EXEC PGM=X") ≡ Some (P MissingPend)
  pub overrides_in_order : refusal (cards "//S EXEC TWO\n//A.D DD DUMMY\n//B.E DD DUMMY") ≡ None
  pub overrides_out_of_order : refusal (cards "//S EXEC TWO\n//B.E DD DUMMY\n//A.D DD DUMMY") ≡ Some (P OverrideOutOfOrder)
  pub override_of_no_step : refusal (cards "//S EXEC TWO\n//C.E DD DUMMY") ≡ Some (P NoSuchProcedureStep)
  pub override_of_a_program : refusal (cards "//S EXEC PGM=X\n//C.E DD DUMMY") ≡ Some (P NoSuchProcedureStep)
  pub condition_of_a_step : refusal (cards "//S EXEC TWO,COND.B=EVEN") ≡ None
  pub parameter_of_no_step : refusal (cards "//S EXEC TWO,PARM.C=A") ≡ Some (P NoSuchProcedureStep)
  pub procedures_15 : refusal (times 15 (cards "//X PROC\n// PEND") ++ cards "//S EXEC PGM=X") ≡ None
  pub procedures_16 : refusal (times 16 (cards "//X PROC\n// PEND") ++ cards "//S EXEC PGM=X") ≡ Some (P TooManyProcedures)
  pub symbol_with_a_value : refusal (cards "//S EXEC P,C=B") ≡ None
  pub symbol_without_a_value : refusal (cards "//S EXEC P") ≡ Some (P SymbolWithoutValue)
  pub symbol_outside_a_procedure : refusal (cards "//S EXEC PGM=X,PARM=&A") ≡ None
  pub value_of_no_class : refusal (cards "//S EXEC P,C=&&A") ≡ Some (P BadValue)

-- Which of two faults is told; procedures of the library.
pub record TellsTheFirst : Type 0 where
  pub byte_before_continuation : refusal (cards "\t\n//S EXEC PGM=X,") ≡ Some (C 2)
  pub data_before_two_jobs : refusal (cards "A\n//S EXEC PGM=X\n//K JOB 1") ≡ Some (C 7)
  pub two_jobs_before_a_name : refusal (cards "//S EXEC PGM=X\n//K JOB 1\n//D DD DSN=A.G0000V00") ≡ Some (P NotOneJob)
  pub name_before_a_keyword : refusal (cards "//S EXEC PGM=X\n//D DD DSN=A.G0000V00,FOO=1") ≡ Some (N 4)
  pub nothing_to_continue_before_a_procedure : refusal (cards "//S EXEC NONE\n// DD DUMMY") ≡ Some (P NothingToContinue)
  pub first_call_is_unknown : refusal (cards "//S EXEC NONE\n//T EXEC JOBBED") ≡ Some (P NoSuchProcedure)
  pub first_call_has_a_job : refusal (cards "//S EXEC JOBBED\n//T EXEC NONE") ≡ Some (P NotOneJob)
  pub out_of_order_before_no_step : refusal (cards "//S EXEC TWO\n//B.E DD DUMMY\n//A.D DD DUMMY\n//C.D DD DUMMY") ≡ Some (P OverrideOutOfOrder)
  pub no_step_before_out_of_order : refusal (cards "//S EXEC TWO\n//C.D DD DUMMY\n//B.E DD DUMMY\n//A.D DD DUMMY") ≡ Some (P NoSuchProcedureStep)
  pub procedure_of_no_step : refusal (cards "//S EXEC EMPTY") ≡ Some (P NoStep)
  pub procedure_of_a_pend : refusal (cards "//S EXEC ENDED") ≡ Some (P UnknownOperation)
  pub dd_before_a_step_of_a_procedure : refusal (cards "//S EXEC EARLY") ≡ Some (P DdBeforeExec)
  pub cards_of_a_procedure : refusal (cards "//S EXEC LATE") ≡ Some (C 5)

-- References, tests and DDNAME.
pub record RefusesReferences : Type 0 where
  pub name_of_an_earlier_dd : refusal (cards "//S EXEC PGM=X\n//D DD DSN=A\n//E DD DSN=*.D") ≡ None
  pub name_of_no_dd : refusal (cards "//S EXEC PGM=X\n//D DD DSN=*.E") ≡ Some (P ReferenceToNothing)
  pub name_of_itself : refusal (cards "//S EXEC PGM=X\n//D DD DSN=*.D") ≡ Some (P ForwardReference)
  pub name_of_a_later_dd : refusal (cards "//S EXEC PGM=X\n//D DD DSN=*.E\n//E DD DSN=A") ≡ Some (P ForwardReference)
  pub name_of_a_taken_dd : refusal (cards "//S EXEC PGM=X\n//D DD DDNAME=E\n//E DD DSN=A\n//F DD DSN=*.E") ≡ Some (P ReferenceToNothing)
  pub volume_of_a_dummy : refusal (cards "//S EXEC PGM=X\n//D DD DUMMY\n//E DD DSN=A,VOL=REF=*.D") ≡ Some (P ReferenceToNothing)
  pub volume_for_a_dummy : refusal (cards "//S EXEC PGM=X\n//D DD DUMMY\n//E DD DUMMY,VOL=REF=*.D") ≡ None
  pub blocks_of_output : refusal (cards "//S EXEC PGM=X\n//D DD SYSOUT=A\n//E DD DUMMY,DCB=*.D") ≡ Some (P ReferenceToNothing)
  pub reference_before_unit : refusal (cards "//S EXEC PGM=X\n//D DD DSN=*.E,UNIT=TAPE") ≡ Some (P ReferenceToNothing)
  pub test_of_itself : refusal (cards "//S EXEC PGM=X,COND=(0,EQ,S)") ≡ Some (P TestOfNoEarlierStep)
  pub test_of_an_earlier_step : refusal (cards "//S EXEC PGM=X\n//T EXEC PGM=X,COND=(0,EQ,S)") ≡ None
  pub test_of_a_later_step : refusal (cards "//S EXEC PGM=X,COND=(0,EQ,T)\n//T EXEC PGM=X") ≡ Some (P TestOfNoEarlierStep)
  pub later_dds_5 : refusal (cards "//S EXEC PGM=X\n//D DD DDNAME=Z\n//D DD DDNAME=Z\n//D DD DDNAME=Z\n//D DD DDNAME=Z\n//D DD DDNAME=Z") ≡ None
  pub later_dds_7 : refusal (cards "//S EXEC PGM=X\n//D DD DDNAME=Z\n//D DD DDNAME=Z\n//D DD DDNAME=Z\n//D DD DDNAME=Z\n//D DD DDNAME=Z\n//D DD DDNAME=Z")
      ≡ Some (P TooManyDdNames)
  pub uncatalogued_temporary : refusal (cards "//S EXEC PGM=X\n//D DD DSN=&&T,DISP=(,UNCATLG)") ≡ Some (P ExcludeOneAnother)
  pub reference_before_uncatalogued : refusal (cards "//S EXEC PGM=X\n//D DD DSN=*.E,DISP=(,UNCATLG)") ≡ Some (P ReferenceToNothing)
  pub tests_first : refusal (cards "//S EXEC PGM=X,COND=(0,EQ,S)\n//D DD DSN=*.D\n//T EXEC PGM=X") ≡ Some (P TestOfNoEarlierStep)
