-- The call that a statement of a deck is, and the procedure that it finds.
use Rattle.std.proofs.Common.{◌≡◌, ◌∷◌, ℕ, true, false, List, Option, None, Some, Result, Ok, Err, ap, refl, slice_get, sym, ◌∙◌}
use Rattle.std.specs.Result.{result_ok}
use Rattle.card_core.specs.declared.statement.Statement.{Statement}
use Rattle.jcl_cards.specs.declared.procedure.ProcedureCard.{ProcedureCard}
use Rattle.jcl_cards.specs.ProcedureCards.{procedure_card}
use Rattle.jcl_deck.specs.declared.deck.Deck.{Deck}
use Rattle.jcl_deck.specs.declared.deck.Procedure.{Procedure}
use Rattle.jcl_deck.specs.declared.operation.Operation.{Operation}
use Rattle.jcl_deck.specs.declared.operation.Operation.TheVariants.{IsDd, IsExec, IsJob, IsOther, IsPend, IsProc}
use Rattle.jcl_deck.specs.Decks.{deck_of, operation_of}
use Rattle.jcl_plan.specs.declared.fault.Cause.{Cause}
use Rattle.jcl_procs.specs.Bodies.{is_proc, is_proc_by}
use Rattle.jcl_procs.specs.Expansions.{Body, body_by, body_of, in_deck}
use Rattle.operand_core.specs.Faults.{or_fault, told}
use Rattle.proc_library.specs.declared.library.LibraryProcedure.{LibraryProcedure}
use Rattle.value_core.specs.Reads.{answer}
use Rattle.deck_places.specs.Called.{behind_proc, called_among, called_in, calling_of, found_by, found_on}
use Rattle.deck_places.specs.declared.called.Calling.{Calling}

pub is_ok : {A E : Type 0} (r : Result A E) (a : A) → Some a ≡ result_ok r → r ≡ Ok a
is_ok (Ok x) a e = cc
is_ok (Err x) a e = absurd cc

-- where the deck, the statement and the call are known
module _ (library : List LibraryProcedure) (lines : List (List ℕ)) (statements : List Statement) (k : ℕ) where
  pub among_so : (deck : Deck) (s : Statement) (calling : Calling) (p : Option Procedure) → deck_of statements ≡ Ok deck → slice_get statements k ≡ Some s →
      calling_of s ≡ Some calling → in_deck deck.procedures calling.procedure ≡ p →
      called_among library lines statements k ≡ called_in calling (found_by library lines statements calling.procedure p)
  among_so deck s calling p read there calls found = rw (read, there, calls, found) refl

-- the body of a procedure that begins with a PROC statement is what stands behind it
its_proc : (operation : Operation) → is_proc_by operation ≡ true → operation ≡ IsProc
its_proc IsProc e = refl
its_proc IsExec e = absurd cc
its_proc IsDd e = absurd cc
its_proc IsJob e = absurd cc
its_proc IsPend e = absurd cc
its_proc IsOther e = absurd cc

none_told : {A : Type 0} (fault : Option Cause) (x y : A) → or_fault fault x ≡ Ok y → fault ≡ None
none_told None x y e = refl
none_told (Some fault) x y e = absurd cc

same_card : {A : Type 0} (fault : Option Cause) (x y : A) → or_fault fault x ≡ Ok y → x ≡ y
same_card None x y e = cc
same_card (Some fault) x y e = absurd cc

some_told : {A : Type 0} (fault : Option Cause) (x : A) (cause : Cause) → or_fault fault x ≡ Err cause → fault ≡ Some cause
some_told None x cause e = absurd cc
some_told (Some fault) x cause e = cc

module _ (s : Statement) (statements : List Statement) (proc : is_proc s ≡ true) where
  behind_proc_so : body_of (s ∷ statements) ≡ body_by IsProc s statements
  behind_proc_so = ap (λ o. body_by o s statements) (its_proc (operation_of s.operation) proc)

  pub body_read : (card : ProcedureCard) → answer (procedure_card false s.name s.operand) ≡ Ok card →
      body_of (s ∷ statements) ≡ Ok (record { symbols = card.symbols; statements = statements })
  body_read card e =
      let read = procedure_card false s.name s.operand in
      let none : told read.faults ≡ None = none_told (told read.faults) read.value card e in
      let so : body_by IsProc s statements ≡ Ok (record { symbols = read.value.symbols; statements = statements }) = rw none refl in
      behind_proc_so ∙ so
      ∙ ap (λ (c : ProcedureCard). let r : Result Body Cause = Ok (record { symbols = c.symbols; statements = statements }) in r)
      (same_card (told read.faults) read.value card e)

  pub body_refused : (cause : Cause) → answer (procedure_card false s.name s.operand) ≡ Err cause → body_of (s ∷ statements) ≡ Err cause
  body_refused cause e =
      let read = procedure_card false s.name s.operand in
      let some : told read.faults ≡ Some cause = some_told (told read.faults) read.value cause e in
      let so : body_by IsProc s statements ≡ Err cause = rw some refl in
      behind_proc_so ∙ so

-- a procedure of the session whose body is read, or is not
module _ (calling : Calling) (lines : List (List ℕ)) (statements : List Statement) where
  pub on_read : (body : Body) (first : ℕ) → body_of statements ≡ Ok body → behind_proc statements ≡ first →
      called_in calling (found_on lines statements)
      ≡ Some (record { calling = calling; found = record { body = body; proc = None; lines = lines; first = first } })
  on_read body first read from = rw (read, from) refl

  pub on_refused : (cause : Cause) → body_of statements ≡ Err cause → called_in calling (found_on lines statements) ≡ None
  on_refused cause refused = rw refused refl

pub at_statement : (s : Statement) (name operand : List ℕ) (r : Result ProcedureCard Cause) → name ≡ s.name → operand ≡ s.operand →
    answer (procedure_card false name operand) ≡ r → answer (procedure_card false s.name s.operand) ≡ r
at_statement s name operand r n o e =
    ap (λ (x : List ℕ). answer (procedure_card false x s.operand)) (sym n) ∙ ap (λ (x : List ℕ). answer (procedure_card false name x)) (sym o) ∙ e
