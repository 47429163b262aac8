-- The statements of a procedure that is called.
use Rattle.std.proofs.Common.{◌≡◌, ℕ, false, List, [], ◌∷◌, Option, Some, None, Result, Ok, Err, refl, sym, subst}
use Rattle.std.specs.Prelude.{All}
use Rattle.std.specs.Str.{bytes_eq}
use Rattle.std.proofs.lemmas.Bool.{cond_both}
use Rattle.std.proofs.lemmas.List.Elements.{All-head, All-tail}
use Rattle.card_core.specs.declared.fault.CardFault.{CardFault}
use Rattle.card_core.specs.declared.statement.Statement.{Statement}
use Rattle.card_core.specs.Deck.{statements_of}
use Rattle.card_core.specs.RefusalNumbers.{number_of}
use Rattle.jcl_plan.specs.declared.fault.Cause.{Cause}
use Rattle.jcl_plan.specs.declared.fault.Cause.TheVariants.{C, P}
use Rattle.jcl_plan.specs.declared.fault.StatementFault.TheVariants.{NoSuchProcedure}
use Rattle.operand_core.specs.Faults.{told}
use Rattle.jcl_cards.specs.ProcedureCards.{procedure_card}
use Rattle.jcl_deck.specs.declared.deck.Procedure.{Procedure}
use Rattle.jcl_deck.specs.declared.operation.Operation.{Operation}
use Rattle.jcl_deck.specs.declared.operation.Operation.TheVariants.{IsDd, IsExec, IsJob, IsOther, IsPend, IsProc}
use Rattle.jcl_deck.specs.Decks.{operation_of}
use Rattle.jcl_procs.specs.Expansions.{Body, body_by, body_in, body_named, body_of, in_deck}
use Rattle.proc_library.specs.declared.library.LibraryProcedure.{LibraryProcedure}
use Rattle.proc_library.specs.Libraries.{in_library}
use Rattle.deck_laws.specs.Sound.{HoldsCards, KeepsCards}
use Rattle.deck_laws.proofs.Statements.{data_are_cards}

-- the statements that are found hold cards
abbrev pub Finds : Result Body Cause → Type 0
Finds r = (body : Body) → r ≡ Ok body → All HoldsCards body.statements

finds_none : (fault : Cause) → Finds (Err fault)
finds_none fault body is = absurd (cc)

finds : (found : Body) → All HoldsCards found.statements → Finds (Ok found)
finds found all body is = subst (λ (b : Body). All HoldsCards b.statements) (let same : found ≡ body = cc in same) all

-- of the library, where it may begin with PROC
proc_finds : (fault : Option Cause) (s : Statement) (statements : List Statement) → told (procedure_card false s.name s.operand).faults ≡ fault →
    All HoldsCards statements → Finds (body_by IsProc s statements)
proc_finds (Some fault) s statements is all =
    let e : body_by IsProc s statements ≡ Err fault = rw (is) refl in
    subst Finds (sym e) (finds_none fault)
proc_finds None s statements is all =
    let found : Body = record { symbols = (procedure_card false s.name s.operand).value.symbols; statements = statements } in
    let e : body_by IsProc s statements ≡ Ok found = rw (is) refl in
    subst Finds (sym e) (finds found all)

by_finds : (operation : Operation) (s : Statement) (statements : List Statement) → All HoldsCards (s ∷ statements) → Finds (body_by operation s statements)
by_finds IsProc s statements all = proc_finds (told (procedure_card false s.name s.operand).faults) s statements refl (All-tail HoldsCards s statements all)
by_finds IsJob s statements all = finds _ all
by_finds IsExec s statements all = finds _ all
by_finds IsDd s statements all = finds _ all
by_finds IsPend s statements all = finds _ all
by_finds IsOther s statements all = finds _ all

of_finds : (statements : List Statement) → All HoldsCards statements → Finds (body_of statements)
of_finds [] all = finds _ all
of_finds (s ∷ statements) all = by_finds (operation_of s.operation) s statements all

lines_find : (library : List LibraryProcedure) (name : List ℕ) (p : LibraryProcedure) (r : Result (List Statement) CardFault) →
    in_library library name ≡ Some p → statements_of p.lines ≡ r → Finds (body_in library name)
lines_find library name p (Err fault) there is =
    let e : body_in library name ≡ Err (C (number_of fault)) = rw (there, is) refl in
    subst Finds (sym e) (finds_none (C (number_of fault)))
lines_find library name p (Ok statements) there is =
    let e : body_in library name ≡ body_of statements = rw (there, is) refl in
    subst Finds (sym e) (of_finds statements (data_are_cards p.lines statements is))

library_finds : (library : List LibraryProcedure) (name : List ℕ) (o : Option LibraryProcedure) → in_library library name ≡ o → Finds (body_in library name)
library_finds library name None is =
    let e : body_in library name ≡ Err (P NoSuchProcedure) = rw (is) refl in
    subst Finds (sym e) (finds_none (P NoSuchProcedure))
library_finds library name (Some p) is = lines_find library name p (statements_of p.lines) is refl

-- and of the stream
abbrev SomeKeeps : Option Procedure → Type 0
SomeKeeps None = Unit {0}
SomeKeeps (Some p) = KeepsCards p

deck_keeps : (procedures : List Procedure) (name : List ℕ) → All KeepsCards procedures → SomeKeeps (in_deck procedures name)
deck_keeps [] name all = tt
deck_keeps (p ∷ procedures) name all =
    cond_both (bytes_eq p.name name) (Some p) (in_deck procedures name) SomeKeeps (λ is. All-head KeepsCards p procedures all)
    (λ is. deck_keeps procedures name (All-tail KeepsCards p procedures all))

named_finds : (library : List LibraryProcedure) (procedures : List Procedure) (name : List ℕ) (o : Option Procedure) → in_deck procedures name ≡ o →
    SomeKeeps o → Finds (body_named library procedures name)
named_finds library procedures name (Some p) is keeps =
    let found : Body = record { symbols = p.symbols; statements = p.statements } in
    let e : body_named library procedures name ≡ Ok found = rw (is) refl in
    subst Finds (sym e) (finds found keeps)
named_finds library procedures name None is keeps =
    let e : body_named library procedures name ≡ body_in library name = rw (is) refl in
    subst Finds (sym e) (library_finds library name (in_library library name) refl)

pub body_finds : (library : List LibraryProcedure) (procedures : List Procedure) (name : List ℕ) → All KeepsCards procedures →
    Finds (body_named library procedures name)
body_finds library procedures name all = named_finds library procedures name (in_deck procedures name) refl (deck_keeps procedures name all)
