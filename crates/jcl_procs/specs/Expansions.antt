-- A deck's steps, call by call. (GC28-6704, "Cataloged and in-stream procedures")
use Rattle.std.specs.Prelude.{ℕ, ◌+◌, false, List, [], ◌∷◌, ◌++◌, map, unwrap_or, Option, Some, None, is_some, Result, Ok, Err, if◌then◌else◌}
use Rattle.std.specs.List.{list_any}
use Rattle.std.specs.Str.{bytes_eq}
use Rattle.card_core.specs.declared.statement.Statement.{Statement}
use Rattle.card_core.specs.Deck.{statements_of}
use Rattle.card_core.specs.declared.fault.CardFault.{CardFault}
use Rattle.card_core.specs.RefusalNumbers.{number_of}
use Rattle.jcl_plan.specs.declared.fault.Cause.{Cause}
use Rattle.jcl_plan.specs.declared.fault.Cause.TheVariants.{C, P}
use Rattle.jcl_plan.specs.declared.fault.StatementFault.TheVariants.{NoSuchProcedure, NoSuchProcedureStep}
use Rattle.operand_core.specs.Faults.{told}
use Rattle.list_values.specs.Conditions.{no_condition}
use Rattle.jcl_symbols.specs.declared.symbol.Symbol.{Symbol}
use Rattle.jcl_cards.specs.declared.exec.ExecCard.{ExecCard}
use Rattle.jcl_cards.specs.declared.exec.Runs.{Runs}
use Rattle.jcl_cards.specs.declared.exec.Runs.TheVariants.{Program, Procedure}
use Rattle.jcl_cards.specs.ProcedureCards.{procedure_card}
use Rattle.jcl_dds.specs.declared.dd.DdCard.{DdCard}
use Rattle.jcl_dds.specs.Merging.{by_itself}
use Rattle.jcl_deck.specs.declared.deck.Deck.{Deck}
use Rattle.jcl_deck.specs.declared.deck.DeckStep.{DeckStep}
use Rattle.jcl_deck.specs.declared.deck.Procedure as in_stream
use Rattle.jcl_deck.specs.declared.operation.Operation.{Operation}
use Rattle.jcl_deck.specs.declared.operation.Operation.TheVariants.{IsProc}
use Rattle.jcl_deck.specs.Decks.{operation_of}
use Rattle.jcl_procs.specs.declared.step.FlatStep.{FlatStep}
use Rattle.proc_library.specs.declared.library.LibraryProcedure.{LibraryProcedure}
use Rattle.proc_library.specs.Libraries.{in_library}
use Rattle.jcl_procs.specs.Calls.{steps_of}
use Rattle.jcl_procs.specs.Overrides.{conditions_overridden, dds_overridden}

abbrev pub and_then : {A B : Type 0} → Result A Cause → (A → Result B Cause) → Result B Cause
and_then (Err fault) next = Err fault
and_then (Ok a) next = next a

-- a procedure that is found: its symbols, and its statements without PROC and PEND
pub record Body : Type 0 where
  pub symbols : List Symbol
  pub statements : List Statement

-- of the library: its cards are read at the call, and it may begin with PROC
abbrev pub body_by : Operation → Statement → List Statement → Result Body Cause
body_by IsProc s statements = by_faults (told (procedure_card false s.name s.operand).faults)
  where
    by_faults : Option Cause → Result Body Cause
    by_faults (Some fault) = Err fault
    by_faults None = Ok (record { symbols = (procedure_card false s.name s.operand).value.symbols; statements = statements })
body_by other s statements = Ok (record { symbols = []; statements = s ∷ statements })

abbrev pub body_of : List Statement → Result Body Cause
body_of [] = Ok (record { symbols = []; statements = [] })
body_of (s ∷ statements) = body_by (operation_of s.operation) s statements

-- a procedure of a name: the first in the stream, else that of the library
abbrev pub in_deck : List in_stream.Procedure → List ℕ → Option in_stream.Procedure
in_deck [] name = None
in_deck (p ∷ procedures) name = if bytes_eq p.name name then Some p else in_deck procedures name

abbrev pub body_in : List LibraryProcedure → List ℕ → Result Body Cause
body_in library name = by_found (in_library library name)
  where
    by_statements : Result (List Statement) CardFault → Result Body Cause
    by_statements (Err fault) = Err (C (number_of fault))
    by_statements (Ok statements) = body_of statements

    by_found : Option LibraryProcedure → Result Body Cause
    by_found None = Err (P NoSuchProcedure)
    by_found (Some p) = by_statements (statements_of p.lines)

abbrev pub body_named : List LibraryProcedure → List in_stream.Procedure → List ℕ → Result Body Cause
body_named library procedures name = by_found (in_deck procedures name)
  where
    by_found : Option in_stream.Procedure → Result Body Cause
    by_found (Some p) = Ok (record { symbols = p.symbols; statements = p.statements })
    by_found None = body_in library name

-- a call: the procedure's statements, then its overrides; the values of a call stand before those of the procedure
abbrev pub called : List LibraryProcedure → List in_stream.Procedure → ℕ → ExecCard → List DdCard → List ℕ → List Symbol → Result (List FlatStep) Cause
called library procedures place exec dds name symbols =
    and_then (body_named library procedures name) (λ body.
    and_then (steps_of (record { name = exec.name; place = place; symbols = symbols ++ body.symbols }) body.statements) (λ steps.
    and_then (conditions_overridden steps exec) (λ changed. dds_overridden changed dds)))

-- a step of the deck itself: no DD of it is for a procedure's step
abbrev pub plain_step : ExecCard → List DdCard → List ℕ → Result (List FlatStep) Cause
plain_step exec dds program =
    if list_any (λ dd. is_some dd.qualifier) dds then Err (P NoSuchProcedureStep)
    else Ok (record {
      name = exec.name;
      procedure_step = None;
      call = None;
      program = program;
      condition = unwrap_or exec.condition no_condition;
      dds = map by_itself dds;
    } ∷ [])

abbrev pub steps_by : Runs → List LibraryProcedure → List in_stream.Procedure → ℕ → DeckStep → Result (List FlatStep) Cause
steps_by (Program name) library procedures place step = plain_step step.exec step.dds name
steps_by (Procedure name symbols) library procedures place step = called library procedures place step.exec step.dds name symbols

abbrev pub joined : Result (List FlatStep) Cause → (Unit {0} → Result (List FlatStep) Cause) → Result (List FlatStep) Cause
joined (Err fault) next = Err fault
joined (Ok steps) next = onto (next tt)
  where
    onto : Result (List FlatStep) Cause → Result (List FlatStep) Cause
    onto (Err fault) = Err fault
    onto (Ok more) = Ok (steps ++ more)

abbrev pub flat_from : List LibraryProcedure → List in_stream.Procedure → ℕ → List DeckStep → Result (List FlatStep) Cause
flat_from library procedures place [] = Ok []
flat_from library procedures place (step ∷ steps) =
    joined (steps_by step.exec.runs library procedures place step) (λ _. flat_from library procedures (place + 1) steps)

-- the steps of a deck in order, or its first refusal, call by call
abbrev pub flat_of : List LibraryProcedure → Deck → Result (List FlatStep) Cause
flat_of library deck = flat_from library deck.procedures 1 deck.steps
