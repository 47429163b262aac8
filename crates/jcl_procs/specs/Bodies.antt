-- The body of a procedure as it is found, and the steps of a deck behind others. (GC28-6704, "Cataloged and in-stream procedures")
use Rattle.std.specs.Prelude.{◌≡◌, Bool, true, false, List, ◌++◌, Result, Ok, Err}
use Rattle.card_core.specs.declared.fault.CardFault.{CardFault}
use Rattle.card_core.specs.declared.statement.Statement.{Statement}
use Rattle.card_core.specs.RefusalNumbers.{number_of}
use Rattle.jcl_plan.specs.declared.fault.Cause.{Cause}
use Rattle.jcl_plan.specs.declared.fault.Cause.TheVariants.{C}
use Rattle.value_core.specs.declared.refusal.ReadError.{ReadError}
use Rattle.value_core.specs.declared.refusal.ReadError.TheVariants.{Refused, Memory}
use Rattle.jcl_deck.specs.declared.operation.Operation.{Operation}
use Rattle.jcl_deck.specs.declared.operation.Operation.TheVariants.{IsProc}
use Rattle.jcl_deck.specs.Decks.{operation_of}
use Rattle.jcl_procs.specs.declared.bodies.Body as code
use Rattle.jcl_procs.specs.declared.step.FlatStep.{FlatStep}
use Rattle.jcl_procs.specs.Expansions.{Body}

-- the statements of cards
abbrev pub statements_by : Result (List Statement) CardFault → Result (List Statement) Cause
statements_by (Err fault) = Err (C (number_of fault))
statements_by (Ok statements) = Ok statements

abbrev pub denoted : code.Body → Body
denoted body = record { symbols = body.symbols; statements = body.statements.now }

-- the body that is meant is found, or the fault that is told is answered, or memory is missing
abbrev pub Finds : Result code.Body ReadError → Result Body Cause → Type 0
Finds (Ok body) found = found ≡ Ok (denoted body)
Finds (Err (Refused fault)) found = found ≡ Err fault
Finds (Err Memory) found = Unit {0}

-- the steps behind others
abbrev pub behind : List FlatStep → Result (List FlatStep) Cause → Result (List FlatStep) Cause
behind steps (Err fault) = Err fault
behind steps (Ok more) = Ok (steps ++ more)

abbrev pub is_proc_by : Operation → Bool
is_proc_by IsProc = true
is_proc_by other = false

abbrev pub is_proc : Statement → Bool
is_proc s = is_proc_by (operation_of s.operation)
