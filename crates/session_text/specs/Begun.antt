-- A block as far as its lines are taken, one after another. (This profile)
use Rattle.std.specs.Prelude.{ℕ, Bool, true, false, not, ◌&&◌, List, [], ◌∷◌, ◌++◌, fold, Option, Some, None, is_some, if◌then◌else◌}
use Rattle.jcl_meaning.specs.declared.program.Request.{Request}
use Rattle.session_input.specs.declared.event.Event.TheVariants as event
use Rattle.session_input.specs.declared.statement.ConfigStatement.TheVariants as config
use Rattle.session_text.specs.declared.begun.Begun.{Begun}
use Rattle.session_text.specs.declared.begun.BlockLines.{BlockLines}
use Rattle.session_text.specs.declared.begun.BlockLines.TheVariants as lines
use Rattle.session_text.specs.declared.begun.ProgramLines.{ProgramLines}
use Rattle.session_text.specs.declared.fault.Fault.{Fault}
use Rattle.session_text.specs.declared.fault.Fault.TheVariants as fault
use Rattle.session_text.specs.declared.statement.Block.{Block}
use Rattle.session_text.specs.declared.statement.Block.TheVariants.{Deck, Procedure, Set, Program, Faulty}
use Rattle.session_text.specs.declared.statement.Ending.{Ending}
use Rattle.session_text.specs.declared.statement.Ending.TheVariants.{Whole, TooLong, ReadFailed}
use Rattle.session_text.specs.declared.statement.Says.{Says}
use Rattle.session_text.specs.declared.statement.Says.TheVariants as says
use Rattle.session_text.specs.Programs.{is_ending, request_of}
use Rattle.session_text.specs.Records.{is_no_record, record_in}

-- with no line yet
abbrev pub lines_of_block : Block → BlockLines
lines_of_block Deck = lines.Deck []
lines_of_block (Procedure name) = lines.Procedure name []
lines_of_block (Set set) = lines.Set (record set { records = [] })
lines_of_block (Program name) = lines.Program (record { name = name; requests = []; ended = false })
lines_of_block (Faulty own) = lines.Deck []

abbrev pub own_fault : Block → Option Fault
own_fault Deck = None
own_fault (Procedure name) = None
own_fault (Set set) = None
own_fault (Program name) = None
own_fault (Faulty own) = Some own

abbrev pub begun_of : Block → Begun
begun_of block = record { lines = lines_of_block block; fault = own_fault block }

-- one request more, before an end
abbrev pub has_request : ProgramLines → List ℕ → Bool
has_request program line = not program.ended && is_some (request_of line)

abbrev pub with_request : ProgramLines → Option Request → ProgramLines
with_request program None = program
with_request program (Some request) = record { name = program.name; requests = program.requests ++ request ∷ []; ended = is_ending request }

abbrev pub program_with : ProgramLines → List ℕ → ProgramLines
program_with program line = if program.ended then program else with_request program (request_of line)

-- one record more
abbrev pub records_with : List (List ℕ) → Option (List ℕ) → List (List ℕ)
records_with records None = records
records_with records (Some text) = records ++ text ∷ []

-- one line more, where it is of the block's form
abbrev pub is_kept : BlockLines → List ℕ → Bool
is_kept (lines.Deck cards) line = true
is_kept (lines.Procedure name cards) line = true
is_kept (lines.Set set) line = not (is_no_record line)
is_kept (lines.Program program) line = has_request program line

abbrev pub lines_with : BlockLines → List ℕ → BlockLines
lines_with (lines.Deck cards) line = lines.Deck (cards ++ line ∷ [])
lines_with (lines.Procedure name cards) line = lines.Procedure name (cards ++ line ∷ [])
lines_with (lines.Set set) line = lines.Set (record set { records = records_with set.records (record_in line) })
lines_with (lines.Program program) line = lines.Program (program_with program line)

-- behind a fault no line is taken
abbrev pub kept_or_bad : Bool → Option Fault
kept_or_bad true = None
kept_or_bad false = Some fault.BadValue

abbrev pub with_line : Begun → List ℕ → Begun
with_line begun line = if is_some begun.fault then begun else record { lines = lines_with begun.lines line; fault = kept_or_bad (is_kept begun.lines line) }

abbrev pub taken : Block → List (List ℕ) → Begun
taken block lines = fold with_line (begun_of block) lines

-- what it says at its END
abbrev pub program_told : ProgramLines → Bool → Says
program_told program has_end = if program.ended then says.Config (config.Program program.name program.requests) has_end else says.Refused fault.BadValue

abbrev pub lines_told : BlockLines → Says
lines_told (lines.Deck cards) = says.Events (event.Read cards) 1
lines_told (lines.Procedure name cards) = says.Config (config.Procedure name cards) true
lines_told (lines.Set set) = says.Config (config.Set set) true
lines_told (lines.Program program) = program_told program true

abbrev pub refused_or : Option Fault → Says → Says
refused_or None told = told
refused_or (Some own) told = says.Refused own

abbrev pub told_at_end : Begun → Says
told_at_end begun = refused_or begun.fault (lines_told begun.lines)

-- and where a text leaves it open
abbrev pub lines_told_open : BlockLines → Says
lines_told_open (lines.Deck cards) = says.Refused fault.NoEnd
lines_told_open (lines.Procedure name cards) = says.Config (config.Procedure name []) false
lines_told_open (lines.Set set) = says.Config (config.Set set) false
lines_told_open (lines.Program program) = program_told program false

abbrev pub told_open : Begun → Says
told_open begun = refused_or begun.fault (lines_told_open begun.lines)

abbrev pub told_cut : Ending → Begun → Says
told_cut Whole begun = told_open begun
told_cut TooLong begun = says.Refused fault.TooLong
told_cut ReadFailed begun = says.Refused fault.ReadFailed
