-- The first statements of a procedure in short: for what a call is refused behind them, it is refused behind the last EXEC statement of them and the one that
-- follows it. (This profile)
use Rattle.std.specs.Prelude.{◌≡◌, Bool, true, false, ◌==◌, List, [], ◌∷◌, ◌++◌, length, Err, if◌then◌else◌}
use Rattle.card_core.specs.declared.statement.Statement.{Statement}
use Rattle.jcl_deck.specs.declared.operation.Operation.{Operation}
use Rattle.jcl_deck.specs.declared.operation.Operation.TheVariants.{IsExec}
use Rattle.jcl_deck.specs.Decks.{operation_of}
use Rattle.jcl_plan.specs.declared.fault.Cause.{Cause}
use Rattle.jcl_procs.specs.Calls.{Call, steps_of}

abbrev pub is_exec_by : Operation → Bool
is_exec_by IsExec = true
is_exec_by other = false

abbrev pub is_exec : Statement → Bool
is_exec s = is_exec_by (operation_of s.operation)

-- with one more statement
abbrev pub with_next : List Statement → Statement → List Statement
with_next short s = if is_exec s then s ∷ [] else (if length short == 1 then short ++ s ∷ [] else short)

abbrev pub short_from : List Statement → List Statement → List Statement
short_from short [] = short
short_from short (s ∷ statements) = short_from (with_next short s) statements

abbrev pub short_of : List Statement → List Statement
short_of statements = short_from [] statements

-- whatever follows them, a call is refused for the same behind these as behind others
abbrev pub StandFor : Call → List Statement → List Statement → Type 0
StandFor call short statements =
    (rest : List Statement) (cause : Cause) →
    (steps_of call (short ++ rest) ≡ Err cause → steps_of call (statements ++ rest) ≡ Err cause)
    × (steps_of call (statements ++ rest) ≡ Err cause → steps_of call (short ++ rest) ≡ Err cause)
