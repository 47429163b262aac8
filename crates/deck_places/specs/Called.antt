-- The statement of a called procedure for which the call is refused, and where it stands. Statements and cards count from 0. (This profile)
use Rattle.std.specs.Prelude.{◌≡◌, ◌<◌, ◌≤◌, ℕ, ◌+◌, Bool, ◌&&◌, List, [], ◌∷◌, ◌++◌, length, take, drop, slice_get, Option, None, Some, Result, Ok, Err, if◌then◌else◌}
use Rattle.std.specs.List.{position_from}
use Rattle.std.specs.Str.{bytes_eq}
use Rattle.card_core.specs.declared.statement.Statement.{Statement}
use Rattle.jcl_cards.specs.declared.exec.ExecCard.{ExecCard}
use Rattle.jcl_cards.specs.declared.exec.Runs.{Runs}
use Rattle.jcl_cards.specs.declared.exec.Runs.TheVariants.{Procedure, Program}
use Rattle.jcl_cards.specs.ExecCards.{exec_card}
use Rattle.jcl_dds.specs.declared.dd.DdCard.{DdCard}
use Rattle.jcl_deck.specs.declared.deck.Deck.{Deck}
use Rattle.jcl_deck.specs.declared.deck.Procedure as in_stream
use Rattle.jcl_deck.specs.declared.operation.Operation.{Operation}
use Rattle.jcl_deck.specs.declared.operation.Operation.TheVariants.{IsExec}
use Rattle.jcl_deck.specs.Decks.{deck_of, operation_of}
use Rattle.jcl_job.specs.Jobs.{statements_in}
use Rattle.jcl_plan.specs.declared.fault.Cause.{Cause}
use Rattle.jcl_procs.specs.Bodies.{is_proc}
use Rattle.jcl_procs.specs.Calls.{Call, steps_of}
use Rattle.jcl_procs.specs.Expansions.{Body, body_of, in_deck, steps_by}
use Rattle.proc_library.specs.declared.library.LibraryProcedure.{LibraryProcedure}
use Rattle.proc_library.specs.Libraries.{in_library}
use Rattle.value_core.specs.Reads.{answer}
use Rattle.deck_places.specs.Cards.{walk_of}
use Rattle.deck_places.specs.declared.called.CalledPlace.{CalledPlace}
use Rattle.deck_places.specs.declared.called.Calling.{Calling}

abbrev pub if_some : {A B : Type 0} → Option A → (A → Option B) → Option B
if_some None next = None
if_some (Some a) next = next a

abbrev pub if_ok : {A B : Type 0} → Result A Cause → (A → Option B) → Option B
if_ok (Err cause) next = None
if_ok (Ok a) next = next a

-- the call that a statement is: an EXEC statement that runs a procedure
abbrev pub calling_by : Option (List ℕ) → Runs → Option Calling
calling_by name (Program program) = None
calling_by name (Procedure procedure symbols) = Some (record { procedure = procedure; name = name; symbols = symbols })

abbrev pub calling_at : Operation → Statement → Option Calling
calling_at IsExec s = if_ok (answer (exec_card s.name s.operand)) (λ (card : ExecCard). calling_by card.name card.runs)
calling_at other s = None

abbrev pub calling_of : Statement → Option Calling
calling_of s = calling_at (operation_of s.operation) s

-- A procedure that is found: its body; where it stands in the deck, the number of its PROC statement there; the lines on which it stands, and the number
-- among their statements of the first that is of its body.
pub record Found : Type 0 where
  pub body : Body
  pub proc : Option ℕ
  pub lines : List (List ℕ)
  pub first : ℕ

-- one of the deck stands behind the first PROC statement of its name
abbrev pub begins_procedure : List ℕ → Statement → Bool
begins_procedure name s = is_proc s && bytes_eq s.name name

abbrev pub proc_of : List ℕ → List Statement → Option ℕ
proc_of name statements = position_from (begins_procedure name) 0 statements

abbrev pub found_behind : List (List ℕ) → in_stream.Procedure → ℕ → Found
found_behind lines p n = record { body = record { symbols = p.symbols; statements = p.statements }; proc = Some n; lines = lines; first = n + 1 }

abbrev pub found_in_deck : List (List ℕ) → List Statement → List ℕ → in_stream.Procedure → Option Found
found_in_deck lines statements name p = if_some (proc_of name statements) (λ n. Some (found_behind lines p n))

-- so does the procedure that a deck has: its statements are those behind that one
pub record StandsAmong (statements : List Statement) (name : List ℕ) (p : in_stream.Procedure) : Type 0 where
  pub proc : ℕ
  pub there : proc_of name statements ≡ Some proc
  pub within : proc + 1 + length p.statements ≤ length statements
  pub so : take (length p.statements) (drop (proc + 1) statements) ≡ p.statements

abbrev pub ProceduresStand : Type 0
ProceduresStand =
    (statements : List Statement) (deck : Deck) (name : List ℕ) (p : in_stream.Procedure) → deck_of statements ≡ Ok deck →
    in_deck deck.procedures name ≡ Some p → StandsAmong statements name p

-- one of the session may begin with a PROC statement, which is not of its body
abbrev pub behind_proc : List Statement → ℕ
behind_proc [] = 0
behind_proc (s ∷ statements) = if is_proc s then 1 else 0

abbrev pub found_on : List (List ℕ) → List Statement → Option Found
found_on lines statements = if_ok (body_of statements) (λ body. Some (record { body = body; proc = None; lines = lines; first = behind_proc statements }))

abbrev pub found_in_session : List LibraryProcedure → List ℕ → Option Found
found_in_session library name = if_some (in_library library name) (λ (p : LibraryProcedure). if_ok (statements_in p.lines) (found_on p.lines))

-- the first of a name in the deck, else that of the session
abbrev pub found_by : List LibraryProcedure → List (List ℕ) → List Statement → List ℕ → Option in_stream.Procedure → Option Found
found_by library lines statements name (Some p) = found_in_deck lines statements name p
found_by library lines statements name None = found_in_session library name

abbrev pub found_of : List LibraryProcedure → List (List ℕ) → List Statement → Deck → List ℕ → Option Found
found_of library lines statements deck name = found_by library lines statements name (in_deck deck.procedures name)

-- a call, and the procedure that it finds
pub record Called : Type 0 where
  pub calling : Calling
  pub found : Found

abbrev pub called_in : Calling → Option Found → Option Called
called_in calling found = if_some found (λ procedure. Some (record { calling = calling; found = procedure }))

-- by the k-th of these statements, which stand on these lines
abbrev pub called_among : List LibraryProcedure → List (List ℕ) → List Statement → ℕ → Option Called
called_among library lines statements k =
    if_ok (deck_of statements) (λ deck.
    if_some (slice_get statements k) (λ s.
    if_some (calling_of s) (λ calling. called_in calling (found_of library lines statements deck calling.procedure))))

abbrev pub called_by : List LibraryProcedure → List (List ℕ) → ℕ → Option Called
called_by library lines k = if_ok (statements_in lines) (λ statements. called_among library lines statements k)

-- what the call gives to the steps of the procedure; the place of the call among others is not asked for
abbrev pub call_with : Calling → Body → Call
call_with calling body = record { name = calling.name; place = 1; symbols = calling.symbols ++ body.symbols }

-- the first statements of a body, so many, are refused for this at the call
abbrev pub IsRefusedTo : Call → List Statement → Cause → ℕ → Type 0
IsRefusedTo call statements cause n = steps_of call (take n statements) ≡ Err cause

-- the statement is the first with which they are
pub record IsFirstRefused (call : Call) (statements : List Statement) (cause : Cause) (n : ℕ) : Type 0 where
  pub there : n < length statements
  pub refused : IsRefusedTo call statements cause (n + 1)
  pub first : (m : ℕ) → m ≤ n → IsRefusedTo call statements cause m → ⊥

-- or there is none
abbrev pub IsFirst : Call → List Statement → Cause → Option ℕ → Type 0
IsFirst call statements cause (Some n) = IsFirstRefused call statements cause n
IsFirst call statements cause None = (n : ℕ) → IsFirstRefused call statements cause n → ⊥

-- the card on which a procedure's PROC statement begins, where it stands in the deck
abbrev pub head_card : Found → Option ℕ
head_card found = if_some found.proc (λ n. slice_get (walk_of found.lines).begun n)

-- where that statement is: of this procedure, and on which card it begins
pub record IsCalledPlace (called : Called) (cause : Cause) (place : CalledPlace) : Type 0 where
  pub procedure : place.procedure ≡ called.calling.procedure
  pub head : place.head ≡ head_card called.found
  pub refused : IsFirstRefused (call_with called.calling called.found.body) called.found.body.statements cause place.statement
  pub card : slice_get (walk_of called.found.lines).begun (called.found.first + place.statement) ≡ Some place.card

abbrev pub IsCalledIn : Called → Cause → Option CalledPlace → Type 0
IsCalledIn called cause (Some place) = IsCalledPlace called cause place
IsCalledIn called cause None = IsFirst (call_with called.calling called.found.body) called.found.body.statements cause None

abbrev pub IsCalledFor : Option Called → Cause → Option CalledPlace → Type 0
IsCalledFor None cause place = place ≡ None
IsCalledFor (Some called) cause place = IsCalledIn called cause place

-- The statement of the procedure that the k-th statement of a deck calls, for which the call is refused for this: the first with which the procedure's body
-- is, read statement by statement with the symbols of the call. There is none where the k-th statement calls no procedure that can be read, as one that
-- overrides, or where the call is refused for something else, as for a step that the procedure does not have.
abbrev pub IsCalled : List LibraryProcedure → List (List ℕ) → ℕ → Cause → Option CalledPlace → Type 0
IsCalled library lines k cause place = IsCalledFor (called_by library lines k) cause place

-- where such a statement is found, the call is refused for this, wherever it stands in a deck and whatever overrides its DDs
abbrev pub CallsAreRefused : Type 0
CallsAreRefused =
    (library : List LibraryProcedure) (lines : List (List ℕ)) (statements : List Statement) (deck : Deck) (s : Statement) (card : ExecCard) (k : ℕ)
    (cause : Cause) (place : CalledPlace) → statements_in lines ≡ Ok statements → deck_of statements ≡ Ok deck → slice_get statements k ≡ Some s →
    operation_of s.operation ≡ IsExec → answer (exec_card s.name s.operand) ≡ Ok card → IsCalled library lines k cause (Some place) →
    (number : ℕ) (dds : List DdCard) → steps_by card.runs library deck.procedures number (record { exec = card; dds = dds }) ≡ Err cause

-- the lines on which the procedure of a place stands: the deck's, or those of the procedure of the session
abbrev pub lines_in : Option LibraryProcedure → List (List ℕ)
lines_in None = []
lines_in (Some procedure) = procedure.lines

abbrev pub lines_by : Option ℕ → List (List ℕ) → List (List ℕ) → List (List ℕ)
lines_by (Some head) own others = own
lines_by None own others = others

abbrev pub lines_of : List LibraryProcedure → List (List ℕ) → CalledPlace → List (List ℕ)
lines_of library lines place = lines_by place.head lines (lines_in (in_library library place.procedure))

-- the card on which such a statement begins is one of them
abbrev pub StatementsAreOnLines : Type 0
StatementsAreOnLines =
    (library : List LibraryProcedure) (lines : List (List ℕ)) (k : ℕ) (cause : Cause) (place : CalledPlace) → IsCalled library lines k cause (Some place) →
    (line : List ℕ) × (slice_get (lines_of library lines place) place.card ≡ Some line)
