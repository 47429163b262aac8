-- What a block says is printable.
use Rattle.std.proofs.Common.{◌≡◌, ℕ, Bool, true, false, cond, List, [], ◌∷◌, map, All, Option, Some, None, refl}
use Rattle.std.specs.List.{list_any}
use Rattle.std.proofs.lemmas.Bool.{or_parts}
use Rattle.std.proofs.lemmas.List.Elements.{All-cons, All-nil}
use Rattle.line_laws.specs.Printable.{IsPrintable}
use Rattle.print_laws.specs.Printable.{IsPrintableRequest}
use Rattle.jcl_meaning.specs.declared.program.Request.{Request}
use Rattle.session_input.specs.declared.statement.ConfigStatement.{ConfigStatement}
use Rattle.session_input.specs.declared.statement.ConfigStatement.TheVariants.{Group, Initiator, Procedure, Program, Set, Unit as Units, Volume}
use Rattle.session_input.specs.declared.statement.SetStatement.{SetStatement}
use Rattle.session_text.specs.declared.fault.Fault.TheVariants as fault
use Rattle.session_text.specs.declared.statement.Block.{Block}
use Rattle.session_text.specs.declared.statement.Block.TheVariants as block
use Rattle.session_text.specs.declared.statement.Ending.{Ending}
use Rattle.session_text.specs.declared.statement.Ending.TheVariants.{ReadFailed, TooLong, Whole}
use Rattle.session_text.specs.declared.statement.Says.{Says}
use Rattle.session_text.specs.declared.statement.Says.TheVariants as says
use Rattle.session_text.specs.Blocks.{block_says, left_open, open_says, program_says, set_says}
use Rattle.session_text.specs.Programs.{requests_of}
use Rattle.session_text.specs.Records.{filled, is_no_record}
use Rattle.machine_laws.proofs.Records.{good_record}
use Rattle.machine_laws.proofs.Requests.{ArePrintableRequests, requests_printable}

-- the serials, records and requests of a configuration's statement
abbrev pub IsPrintableConfig : ConfigStatement → Type 0
IsPrintableConfig (Volume serial tracks used) = IsPrintable serial
IsPrintableConfig (Units name serials) = All IsPrintable serials
IsPrintableConfig (Group base limit scratch) = Unit {0}
IsPrintableConfig (Set s) = IsPrintable s.serial × All IsPrintable s.records
IsPrintableConfig (Procedure name lines) = Unit {0}
IsPrintableConfig (Program name requests) = All IsPrintableRequest requests
IsPrintableConfig (Initiator number classes) = Unit {0}

abbrev pub IsPrintableSays : Says → Type 0
IsPrintableSays (says.Config s has_end) = IsPrintableConfig s
IsPrintableSays (says.Events e times) = Unit {0}
IsPrintableSays (says.Refused f) = Unit {0}

-- a block whose set is of such a volume
abbrev pub IsPrintableBlock : Block → Type 0
IsPrintableBlock block.Deck = Unit {0}
IsPrintableBlock (block.Procedure name) = Unit {0}
IsPrintableBlock (block.Set set) = IsPrintable set.serial
IsPrintableBlock (block.Program name) = Unit {0}
IsPrintableBlock (block.Faulty own) = Unit {0}

-- the records of a set
good_records : (lines : List (List ℕ)) → list_any is_no_record lines ≡ false → All IsPrintable (map filled lines)
good_records [] h = All-nil IsPrintable
good_records (line ∷ lines) h =
    let both : (is_no_record line ≡ false) × (list_any is_no_record lines ≡ false) = or_parts (is_no_record line) (list_any is_no_record lines) h in
    All-cons IsPrintable (filled line) (map filled lines) (good_record line both.0) (good_records lines both.1)

filled_by : (b : Bool) (set : SetStatement) (lines : List (List ℕ)) (has_end : Bool) → IsPrintable set.serial →
    (b ≡ false → All IsPrintable (map filled lines)) →
    IsPrintableSays (cond b (says.Refused fault.BadValue) (says.Config (Set (record set { records = map filled lines })) has_end))
filled_by true set lines has_end h k = tt
filled_by false set lines has_end h k = (h, k refl)

set_printable : (set : SetStatement) (lines : List (List ℕ)) (has_end : Bool) → IsPrintable set.serial → IsPrintableSays (set_says set lines has_end)
set_printable set lines has_end h = filled_by (list_any is_no_record lines) set lines has_end h (good_records lines)

-- the requests of a program
asked_by : (name : List ℕ) (requests : Option (List Request)) (has_end : Bool) → ArePrintableRequests requests →
    IsPrintableSays (program_says name requests has_end)
asked_by name None has_end h = tt
asked_by name (Some requests) has_end h = h

program_printable : (name : List ℕ) (lines : List (List ℕ)) (has_end : Bool) → IsPrintableSays (program_says name (requests_of lines) has_end)
program_printable name lines has_end = asked_by name (requests_of lines) has_end (requests_printable lines)

-- with an end, and open
pub block_printable : (b : Block) (lines : List (List ℕ)) → IsPrintableBlock b → IsPrintableSays (block_says b lines)
block_printable block.Deck lines h = tt
block_printable (block.Procedure name) lines h = tt
block_printable (block.Set set) lines h = set_printable set lines true h
block_printable (block.Program name) lines h = program_printable name lines true
block_printable (block.Faulty own) lines h = tt

left_printable : (b : Block) (lines : List (List ℕ)) → IsPrintableBlock b → IsPrintableSays (left_open b lines)
left_printable block.Deck lines h = tt
left_printable (block.Procedure name) lines h = tt
left_printable (block.Set set) lines h = set_printable set lines false h
left_printable (block.Program name) lines h = program_printable name lines false
left_printable (block.Faulty own) lines h = tt

pub open_printable : (ending : Ending) (b : Block) (lines : List (List ℕ)) → IsPrintableBlock b → IsPrintableSays (open_says ending b lines)
open_printable Whole b lines h = left_printable b lines h
open_printable TooLong b lines h = tt
open_printable ReadFailed b lines h = tt
