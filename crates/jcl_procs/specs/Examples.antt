-- Decks, and the steps that they have with the procedures that they call, or their first refusal. (This profile)
use Rattle.std.specs.Prelude.{◌≡◌, ℕ, zero, suc, false, List, [], ◌∷◌, codes, Option, Some, None, Result, Ok, Err}
use Rattle.jname_core.specs.declared.key.Key.{Key}
use Rattle.jname_core.specs.declared.key.Key.TheVariants.{Named, Temporary}
use Rattle.card_core.specs.declared.fault.CardFault.{CardFault}
use Rattle.card_core.specs.declared.statement.Statement.{Statement}
use Rattle.card_core.specs.Deck.{statements_of}
use Rattle.card_core.specs.RefusalNumbers.{number_of}
use Rattle.jcl_plan.specs.declared.fault.Cause.{Cause}
use Rattle.jcl_plan.specs.declared.fault.Cause.TheVariants.{C, N, P}
use Rattle.jcl_plan.specs.declared.fault.StatementFault.TheVariants.{CardsInProcedure, DdBeforeExec, ExcludeOneAnother, MissingPend, NoStep, NoSuchProcedure, NoSuchProcedureStep, NothingToContinue, OverrideOutOfOrder, ProcedureCallsProcedure, SymbolWithoutValue, TooManyProcedures, UnknownOperation}
use Rattle.jcl_plan.specs.declared.plan.Status.{Status}
use Rattle.jcl_plan.specs.declared.plan.Status.TheVariants as status
use Rattle.jcl_plan.specs.declared.plan.Word.{Word}
use Rattle.jcl_plan.specs.declared.plan.Word.TheVariants.{Pass}
use Rattle.list_values.specs.Conditions.{no_condition}
use Rattle.value_core.specs.declared.set.SetName.TheVariants.{Of}
use Rattle.jcl_cards.specs.declared.coded.Coded.TheVariants.{Value}
use Rattle.jcl_dds.specs.declared.dd.DdCard.{DdCard}
use Rattle.jcl_dds.specs.declared.dd.Word.TheVariants.{Dummy}
use Rattle.jcl_dds.specs.Examples.{empty_dd}
use Rattle.jcl_deck.specs.Decks.{deck_of}
use Rattle.jcl_procs.specs.declared.step.FlatStep.{FlatStep}
use Rattle.proc_library.specs.declared.library.LibraryProcedure.{LibraryProcedure}
use Rattle.jcl_procs.specs.Expansions.{and_then, flat_of}

abbrev pub statements_in : List (List ℕ) → Result (List Statement) Cause
statements_in lines = by (statements_of lines)
  where
    by : Result (List Statement) CardFault → Result (List Statement) Cause
    by (Err fault) = Err (C (number_of fault))
    by (Ok statements) = Ok statements

abbrev pub steps_in : List LibraryProcedure → List (List ℕ) → Result (List FlatStep) Cause
steps_in library lines = and_then (statements_in lines) (λ statements. and_then (deck_of statements) (flat_of library))

abbrev pub procedure : List ℕ → List (List ℕ) → LibraryProcedure
procedure name lines = record { name = name; lines = lines }

abbrev pub output_dd : List ℕ → ℕ → DdCard
output_dd name class = record (empty_dd name) { sysout = Value class }

abbrev pub set_dd : List ℕ → Key → DdCard
set_dd name key = record (empty_dd name) { set_name = Value (Of key) }

abbrev pub with_status : DdCard → Status → Option Word → DdCard
with_status dd is normal = record dd { disposition = Value (record { status = is; normal = normal; conditional = None }) }

abbrev pub with_tracks : DdCard → ℕ → DdCard
with_tracks dd primary = record dd { space = Value (record { primary = primary; secondary = 0; release = false }) }

abbrev pub step_of_call : List ℕ → List ℕ → List ℕ → List DdCard → FlatStep
step_of_call name procedure_step program dds =
    record { name = Some name; procedure_step = Some procedure_step; call = Some 1; program = program; condition = no_condition; dds = dds }

-- a procedure of the library whose program and class are symbols
abbrev pub symbolic : LibraryProcedure
symbolic = procedure (codes "P") (codes "//P PROC N=IEFBR14" ∷ codes "//A EXEC PGM=&N" ∷ codes "//O DD SYSOUT=&C" ∷ [])

-- one that copies a set
abbrev pub copying : LibraryProcedure
copying = procedure (codes "COPY") (codes "//COPY PROC LVL=TEST,SFX=X" ∷ codes "//P1 EXEC PGM=IEFBR14" ∷ codes "//IN DD DUMMY"
    ∷ codes "//OUT DD DSN=&LVL..DATA&SFX,DISP=(NEW,PASS),SPACE=(TRK,1)" ∷ codes "//TMP DD DSN=&TEMP,SPACE=(TRK,1)" ∷ [])

-- so many procedures in the stream
abbrev pub procedures : ℕ → List (List ℕ)
procedures zero = []
procedures (suc n) = codes "//X PROC" ∷ codes "//Q EXEC PGM=OWN" ∷ codes "// PEND" ∷ procedures n

-- one of two steps
abbrev pub double : LibraryProcedure
double = procedure (codes "TWO") (codes "//A EXEC PGM=IEFBR14" ∷ codes "//D DD SYSOUT=A" ∷ codes "//B EXEC PGM=IEFBR14" ∷ codes "//D DD DUMMY" ∷ [])

abbrev pub library : List LibraryProcedure
library = symbolic ∷ copying ∷ double
    ∷ procedure (codes "CALLS") (codes "//A EXEC P" ∷ [])
    ∷ procedure (codes "DATA") (codes "//A EXEC PGM=X" ∷ codes "//I DD *" ∷ [])
    ∷ procedure (codes "EMPTY") (codes "//EMPTY PROC" ∷ [])
    ∷ procedure (codes "ENDED") (codes "//A EXEC PGM=X" ∷ codes "// PEND" ∷ [])
    ∷ procedure (codes "LONE") (codes "//A EXEC PGM=X" ∷ codes "// DD DUMMY" ∷ [])
    ∷ procedure (codes "EARLY") (codes "//D DD DUMMY" ∷ codes "//A EXEC PGM=X" ∷ [])
    ∷ procedure (codes "CARDS") (codes "//A EXEC PGM=X,PARM='Y" ∷ []) ∷ []

abbrev pub deck : List (List ℕ) → List (List ℕ)
deck lines = codes "//J JOB 1" ∷ lines

abbrev pub call_two : List (List ℕ) → Result (List FlatStep) Cause
call_two overrides = steps_in library (deck (codes "//S EXEC TWO" ∷ overrides))

abbrev pub two_steps : DdCard → List DdCard → FlatStep → List FlatStep
two_steps first more second = step_of_call (codes "S") (codes "A") (codes "IEFBR14") (first ∷ more) ∷ second ∷ []

abbrev pub second_step : DdCard → FlatStep
second_step dd = step_of_call (codes "S") (codes "B") (codes "IEFBR14") (dd ∷ [])

abbrev pub dummy_dd : List ℕ → DdCard
dummy_dd name = record (empty_dd name) { word = Some Dummy }

pub record Expands : Type 0 where
  pub symbols : steps_in library (deck (codes "//S EXEC P,C=B" ∷ []))
      ≡ Ok (step_of_call (codes "S") (codes "A") (codes "IEFBR14") (output_dd (codes "O") 66 ∷ []) ∷ [])
  pub symbol_without_value : steps_in library (deck (codes "//S EXEC P" ∷ [])) ≡ Err (P SymbolWithoutValue)
  pub call_wins : steps_in library (deck (codes "//S EXEC P,C=B,N=OTHER" ∷ []))
      ≡ Ok (step_of_call (codes "S") (codes "A") (codes "OTHER") (output_dd (codes "O") 66 ∷ []) ∷ [])
  pub overridden : steps_in library (deck (codes "//S1 EXEC COPY,LVL=PROD,SFX=" ∷ codes "//P1.IN DD DSN=OLD.SET,DISP=SHR" ∷ []))
      ≡ Ok (step_of_call (codes "S1") (codes "P1") (codes "IEFBR14")
      (with_status (set_dd (codes "IN") (Named (codes "OLD.SET"))) status.Shr None
      ∷ with_tracks (with_status (set_dd (codes "OUT") (Named (codes "PROD.DATA"))) status.New (Some Pass)) 1
      ∷ with_tracks (set_dd (codes "TMP") (Temporary (codes "TEMP"))) 1 ∷ []) ∷ [])
  pub class_overridden : call_two (codes "//A.D DD SYSOUT=B" ∷ [])
      ≡ Ok (two_steps (output_dd (codes "D") 66) [] (second_step (dummy_dd (codes "D"))))
  pub class_nullified : call_two (codes "//A.D DD SYSOUT=" ∷ [])
      ≡ Ok (two_steps (empty_dd (codes "D")) [] (second_step (dummy_dd (codes "D"))))
  pub set_name_removes_class : call_two (codes "//A.D DD DSN=X" ∷ [])
      ≡ Ok (two_steps (set_dd (codes "D") (Named (codes "X"))) [] (second_step (dummy_dd (codes "D"))))
  pub unqualified_goes_on : call_two (codes "//B.D DD DUMMY" ∷ codes "//D DD SYSOUT=C" ∷ [])
      ≡ Ok (two_steps (output_dd (codes "D") 65) [] (second_step (output_dd (codes "D") 67)))
  pub added : call_two (codes "//A.N DD SYSOUT=C" ∷ codes "//N DD SYSOUT=D" ∷ [])
      ≡ Ok (two_steps (output_dd (codes "D") 65) (output_dd (codes "N") 68 ∷ []) (second_step (dummy_dd (codes "D"))))
  pub continued : call_two (codes "//A.D DD DUMMY" ∷ codes "// DD DSN=X" ∷ [])
      ≡ Ok (two_steps (dummy_dd (codes "D")) (record (set_dd [] (Named (codes "X"))) { name = None } ∷ []) (second_step (dummy_dd (codes "D"))))
  pub status_of_a_class : call_two (codes "//A.D DD DISP=OLD" ∷ []) ≡ Err (P ExcludeOneAnother)
  pub goes_back : call_two (codes "//B.D DD DUMMY" ∷ codes "//A.D DD DUMMY" ∷ []) ≡ Err (P OverrideOutOfOrder)
  pub no_such_step : call_two (codes "//C.D DD DUMMY" ∷ []) ≡ Err (P NoSuchProcedureStep)
  pub condition_of_no_step : steps_in library (deck (codes "//S EXEC TWO,COND.C=EVEN" ∷ codes "//B.D DD DUMMY" ∷ codes "//A.D DD DUMMY" ∷ []))
      ≡ Err (P NoSuchProcedureStep)
  pub no_such_procedure : steps_in library (deck (codes "//S EXEC NONE" ∷ [])) ≡ Err (P NoSuchProcedure)
  pub in_the_stream_first : steps_in library (deck (codes "//TWO PROC" ∷ codes "//Q EXEC PGM=OWN" ∷ codes "// PEND ENDS" ∷ codes "//S EXEC TWO" ∷ []))
      ≡ Ok (step_of_call (codes "S") (codes "Q") (codes "OWN") [] ∷ [])
  pub behind_its_call : steps_in library (deck (codes "//S EXEC LATE" ∷ codes "//LATE PROC" ∷ codes "//Q EXEC PGM=OWN" ∷ codes "// PEND" ∷ []))
      ≡ Ok (step_of_call (codes "S") (codes "Q") (codes "OWN") [] ∷ [])
  pub calls_one : steps_in library (deck (codes "//S EXEC CALLS" ∷ [])) ≡ Err (P ProcedureCallsProcedure)
  pub has_cards : steps_in library (deck (codes "//S EXEC DATA" ∷ [])) ≡ Err (P CardsInProcedure)
  pub has_no_step : steps_in library (deck (codes "//S EXEC EMPTY" ∷ [])) ≡ Err (P NoStep)
  pub has_a_pend : steps_in library (deck (codes "//S EXEC ENDED" ∷ [])) ≡ Err (P UnknownOperation)
  pub continues_nothing : steps_in library (deck (codes "//S EXEC LONE" ∷ [])) ≡ Err (P NothingToContinue)
  pub dd_before_a_step : steps_in library (deck (codes "//S EXEC EARLY" ∷ [])) ≡ Err (P DdBeforeExec)
  pub faults_of_its_cards : steps_in library (deck (codes "//S EXEC CARDS" ∷ [])) ≡ Err (C 5)
  pub not_called : steps_in library (deck (codes "//X PROC" ∷ codes "//Q EXEC PGM=9,NO=" ∷ codes "// PEND" ∷ codes "//S EXEC TWO" ∷ []))
      ≡ Ok (two_steps (output_dd (codes "D") 65) [] (second_step (dummy_dd (codes "D"))))
  pub without_pend : steps_in library (deck (codes "//S EXEC TWO" ∷ codes "//X PROC" ∷ codes "//Q EXEC PGM=X" ∷ [])) ≡ Err (P MissingPend)
  pub procedure_within : steps_in library (deck (codes "//X PROC" ∷ codes "//Y PROC" ∷ [])) ≡ Err (P MissingPend)
  pub no_step_before_no_pend : steps_in library (deck (codes "//X PROC" ∷ codes "//Q EXEC PGM=X" ∷ [])) ≡ Err (P NoStep)
  pub of_15 : steps_in library (deck (codes "//S EXEC X" ∷ procedures 15)) ≡ Ok (step_of_call (codes "S") (codes "Q") (codes "OWN") [] ∷ [])
  pub of_16 : steps_in library (deck (codes "//S EXEC X" ∷ procedures 16)) ≡ Err (P TooManyProcedures)
  pub names_first : steps_in library (deck (codes "//S EXEC TWO" ∷ codes "//1X PROC" ∷ [])) ≡ Err (N 3)
