-- Blocks: what a statement says with the lines behind it. (This profile)
use Rattle.std.specs.Prelude.{ℕ, Bool, true, false, List, [], map, Option, Some, None, if◌then◌else◌}
use Rattle.std.specs.List.{list_any}
use Rattle.jcl_meaning.specs.declared.program.Request.{Request}
use Rattle.session_input.specs.declared.event.Event.TheVariants as event
use Rattle.session_input.specs.declared.statement.ConfigStatement.TheVariants as config
use Rattle.session_input.specs.declared.statement.SetStatement.{SetStatement}
use Rattle.session_text.specs.declared.fault.Fault.TheVariants as fault
use Rattle.session_text.specs.declared.statement.Block.{Block}
use Rattle.session_text.specs.declared.statement.Block.TheVariants.{Deck, Procedure, Set, Program, Faulty}
use Rattle.session_text.specs.declared.statement.Ending.{Ending}
use Rattle.session_text.specs.declared.statement.Ending.TheVariants.{Whole, TooLong, ReadFailed}
use Rattle.session_text.specs.declared.statement.Says.{Says}
use Rattle.session_text.specs.declared.statement.Says.TheVariants as says
use Rattle.session_text.specs.Programs.{requests_of}
use Rattle.session_text.specs.Records.{filled, is_no_record}

-- SET: each line is a record
abbrev pub set_says : SetStatement → List (List ℕ) → Bool → Says
set_says set lines has_end =
    if list_any is_no_record lines then says.Refused fault.BadValue else says.Config (config.Set (record set { records = map filled lines })) has_end

-- PROGRAM: each line is a request
abbrev pub program_says : List ℕ → Option (List Request) → Bool → Says
program_says name None has_end = says.Refused fault.BadValue
program_says name (Some requests) has_end = says.Config (config.Program name requests) has_end

-- a block with these lines, behind which its END stands
abbrev pub block_says : Block → List (List ℕ) → Says
block_says Deck lines = says.Events (event.Read lines) 1
block_says (Procedure name) lines = says.Config (config.Procedure name lines) true
block_says (Set set) lines = set_says set lines true
block_says (Program name) lines = program_says name (requests_of lines) true
block_says (Faulty own) lines = says.Refused own

-- a block that the end of a whole text leaves open: its lines are judged as they stand
abbrev pub left_open : Block → List (List ℕ) → Says
left_open Deck lines = says.Refused fault.NoEnd
left_open (Procedure name) lines = says.Config (config.Procedure name []) false
left_open (Set set) lines = set_says set lines false
left_open (Program name) lines = program_says name (requests_of lines) false
left_open (Faulty own) lines = says.Refused own

-- a text that was cut there tells so, whatever the lines hold
abbrev pub open_says : Ending → Block → List (List ℕ) → Says
open_says Whole block lines = left_open block lines
open_says TooLong block lines = says.Refused fault.TooLong
open_says ReadFailed block lines = says.Refused fault.ReadFailed
