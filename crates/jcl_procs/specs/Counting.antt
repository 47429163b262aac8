-- The steps of a deck as they are collected, up to a number of them, and the calls that need not be read again. (This profile)
use Rattle.std.specs.Prelude.{◌≡◌, ◌⊎◌, ◌<◌, ◌+◌, ◌==◌, ℕ, nat_lt, Bool, true, false, List, [], ◌++◌, length, map, Option, None, Some, Result, Ok, Err, if◌then◌else◌, All}
use Rattle.std.specs.List.{list_any}
use Rattle.card_core.specs.declared.statement.Statement.{Statement}
use Rattle.jcl_plan.specs.declared.fault.Cause.{Cause}
use Rattle.value_core.specs.declared.refusal.ReadError.{ReadError}
use Rattle.value_core.specs.declared.refusal.ReadError.TheVariants.{Refused, Memory}
use Rattle.jcl_symbols.specs.declared.symbol.Symbol.{Symbol}
use Rattle.jcl_deck.specs.declared.deck.DeckStep.{DeckStep}
use Rattle.jcl_deck.specs.declared.deck.Procedure as in_stream
use Rattle.jcl_deck.specs.declared.operation.Operation.TheVariants.{IsDd}
use Rattle.jcl_deck.specs.Decks.{last_has_dd, operation_of}
use Rattle.jcl_procs.specs.declared.expansion.Expansion.{Expansion}
use Rattle.jcl_procs.specs.declared.expansion.Expansion.TheVariants.{Steps, TooMany}
use Rattle.jcl_procs.specs.declared.known.Call as code
use Rattle.jcl_procs.specs.declared.known.Known.{Known}
use Rattle.jcl_procs.specs.declared.step.FlatStep.{FlatStep}
use Rattle.jcl_procs.specs.Calls.{Call, Place, steps_of}
use Rattle.jcl_procs.specs.Expansions.{and_then, body_named, called}
use Rattle.proc_library.specs.declared.library.LibraryProcedure.{LibraryProcedure}
use Rattle.jcl_dds.specs.declared.dd.DdCard.{DdCard}
use Rattle.jcl_procs.specs.declared.expansion.StepCall.{StepCall}

abbrev pub up_to : ℕ → List FlatStep → Expansion
up_to most steps = if nat_lt most (length steps) then TooMany else Steps steps

-- a deck's first refusal, or its steps as long as they are not more than that
abbrev pub counted : ℕ → Result (List FlatStep) Cause → Result Expansion Cause
counted most flat = and_then flat (λ steps. Ok (up_to most steps))

-- the steps that a procedure brings at a call, before any is overridden
abbrev pub brought : List LibraryProcedure → List in_stream.Procedure → Option (List ℕ) → ℕ → List ℕ → List Symbol → Result (List FlatStep) Cause
brought library procedures called place name symbols =
    and_then (body_named library procedures name) (λ body.
    steps_of (record { name = called; place = place; symbols = symbols ++ body.symbols }) body.statements)

-- whether they are more, or the first refusal
abbrev pub is_over : ℕ → Result (List FlatStep) Cause → Result Bool Cause
is_over most flat = and_then flat (λ steps. Ok (nat_lt most (length steps)))

-- how many more there may be behind so many; none where they are too many
abbrev pub IsLeft : ℕ → ℕ → Option ℕ → Type 0
IsLeft most count (Some left) = count + left ≡ most
IsLeft most count None = most < count

-- what is told of a step of a deck: how many steps it brings, or for what it is refused; or memory is missing
abbrev pub Tells : Result ℕ ReadError → Result (List FlatStep) Cause → Type 0
Tells (Ok count) steps = (found : List FlatStep) × (steps ≡ Ok found) × (length found ≡ count)
Tells (Err (Refused fault)) steps = steps ≡ Err fault
Tells (Err Memory) steps = Unit {0}

-- some call of a procedure with symbols brings steps
pub record Brings (library : List LibraryProcedure) (procedures : List in_stream.Procedure) (name : List ℕ) (symbols : List Symbol) (steps : List FlatStep) : Type 0 where
  pub called : Option (List ℕ)
  pub place : ℕ
  pub so : brought library procedures called place name symbols ≡ Ok steps

-- and so does one of the procedure that is kept
abbrev pub IsKnown : List LibraryProcedure → List in_stream.Procedure → Known → Type 0
IsKnown library procedures known = Brings library procedures known.name known.symbols known.steps

abbrev pub WasBrought : List LibraryProcedure → List in_stream.Procedure → List ℕ → Type 0
WasBrought library procedures name = (symbols : List Symbol) × (steps : List FlatStep) × Brings library procedures name symbols steps

-- the steps of a call, before any is overridden and behind it
abbrev pub brought_by : List LibraryProcedure → List in_stream.Procedure → code.Call → Result (List FlatStep) Cause
brought_by library procedures call = brought library procedures call.exec.now.name call.place call.name call.symbols.now

abbrev pub called_by : List LibraryProcedure → List in_stream.Procedure → code.Call → Result (List FlatStep) Cause
called_by library procedures call = called library procedures call.place call.exec.now call.dds.now call.name call.symbols.now

-- an operand is the same whatever values symbols have
abbrev pub has_symbol : List ℕ → Bool
has_symbol operand = list_any (λ c. c == 38) operand

-- statements bring steps at some call
abbrev pub WereRead : List Statement → Type 0
WereRead statements = (call : Call) × (steps : List FlatStep) × (steps_of call statements ≡ Ok steps)

-- a DD behind another one of its step, without a symbol
pub record IsSettled (place : Place) (s : Statement) : Type 0 where
  pub dd : operation_of s.operation ≡ IsDd
  pub plain : has_symbol s.operand ≡ false
  pub behind : last_has_dd (map (λ step. step.dds) place.steps) ≡ true

-- no step is kept where the deck's own are too many already
abbrev pub KeepsFirst : ℕ → List DeckStep → Expansion → Type 0
KeepsFirst most steps expansion = ((expansion ≡ TooMany) × (most < length steps)) ⊎ (expansion ≡ Steps [])

-- the steps of a call with these DDs
abbrev pub called_with : List LibraryProcedure → List in_stream.Procedure → StepCall → List DdCard → Result (List FlatStep) Cause
called_with library procedures call dds = called library procedures call.place call.exec.now dds call.name call.symbols.now

-- of procedures that are kept this one has a name
abbrev pub IsKeptOf : List Known → List ℕ → Known → Type 0
IsKeptOf known name found = (library : List LibraryProcedure) (procedures : List in_stream.Procedure) → All (IsKnown library procedures) known →
    IsKnown library procedures found × (found.name ≡ name)

-- one more may be kept, which brings these steps
abbrev pub MayKeep : List Known → List ℕ → List Symbol → List FlatStep → List Known → Type 0
MayKeep old name symbols steps new = (library : List LibraryProcedure) (procedures : List in_stream.Procedure) → All (IsKnown library procedures) old →
    Brings library procedures name symbols steps → All (IsKnown library procedures) new
