-- A block that is taken line by line says what its lines say together.
use Rattle.std.proofs.Common.{◌≡◌, ℕ, Bool, true, false, cond, List, [], ◌∷◌, ◌++◌, map, fold, Option, Some, None, refl, sym, ap, ◌∙◌, append_assoc}
use Rattle.std.specs.Prelude.{is_some}
use Rattle.std.proofs.lemmas.List.{append-nil}
use Rattle.std.specs.List.{list_any}
use Rattle.std.specs.Option.{option_map}
use Rattle.jcl_meaning.specs.declared.program.Request.{Request}
use Rattle.session_input.specs.declared.statement.ConfigStatement.TheVariants as config
use Rattle.session_input.specs.declared.statement.SetStatement.{SetStatement}
use Rattle.session_text.specs.declared.begun.Begun.{Begun}
use Rattle.session_text.specs.declared.begun.BlockLines.{BlockLines}
use Rattle.session_text.specs.declared.begun.BlockLines.TheVariants as lines
use Rattle.session_text.specs.declared.begun.ProgramLines.{ProgramLines}
use Rattle.session_text.specs.declared.fault.Fault.{Fault}
use Rattle.session_text.specs.declared.fault.Fault.TheVariants as fault
use Rattle.session_text.specs.declared.statement.Block.{Block}
use Rattle.session_text.specs.declared.statement.Block.TheVariants.{Deck, Procedure, Set, Program, Faulty}
use Rattle.session_text.specs.declared.statement.Ending.{Ending}
use Rattle.session_text.specs.declared.statement.Ending.TheVariants.{Whole, TooLong, ReadFailed}
use Rattle.session_text.specs.declared.statement.Says.{Says}
use Rattle.session_text.specs.declared.statement.Says.TheVariants as says
use Rattle.session_text.specs.Begun.{kept_or_bad, lines_told, lines_told_open, program_told, refused_or, taken, told_at_end, told_cut, told_open, with_line, with_request}
use Rattle.session_text.specs.Blocks.{block_says, left_open, open_says, program_says}
use Rattle.session_text.specs.Programs.{is_ending, last_request, more_requests, request_of, requests_of}
use Rattle.session_text.specs.Records.{filled, is_no_record}

-- what a block says with its END, and without
abbrev lines_say : Bool → BlockLines → Says
lines_say true given = lines_told given
lines_say false given = lines_told_open given

abbrev told : Bool → Begun → Says
told has_end begun = refused_or begun.fault (lines_say has_end begun.lines)

-- a fault stays, and without one the lines go on
abbrev faulty : Fault → BlockLines → Begun
faulty own given = record { lines = given; fault = Some own }

abbrev good : BlockLines → Begun
good given = record { lines = given; fault = None }

fault_stays : (own : Fault) (given : BlockLines) (rows : List (List ℕ)) → fold with_line (faulty own given) rows ≡ faulty own given
fault_stays own given [] = refl
fault_stays own given (row ∷ rows) = fault_stays own given rows

fault_told : (has_end : Bool) (own : Fault) (given : BlockLines) (rows : List (List ℕ)) → told has_end (fold with_line (faulty own given) rows) ≡ says.Refused own
fault_told has_end own given rows = ap (told has_end) (fault_stays own given rows)

-- lines are lent in their order
deck_taken : (before rows : List (List ℕ)) → fold with_line (good (lines.Deck before)) rows ≡ good (lines.Deck (before ++ rows))
deck_taken before [] = ap (λ (cards : List (List ℕ)). good (lines.Deck cards)) (sym (append-nil before))
deck_taken before (row ∷ rows) =
    deck_taken (before ++ row ∷ []) rows ∙ ap (λ (cards : List (List ℕ)). good (lines.Deck cards)) (append_assoc before (row ∷ []) rows)

procedure_taken : (name : List ℕ) (before rows : List (List ℕ)) →
    fold with_line (good (lines.Procedure name before)) rows ≡ good (lines.Procedure name (before ++ rows))
procedure_taken name before [] = ap (λ (cards : List (List ℕ)). good (lines.Procedure name cards)) (sym (append-nil before))
procedure_taken name before (row ∷ rows) =
    procedure_taken name (before ++ row ∷ []) rows
    ∙ ap (λ (cards : List (List ℕ)). good (lines.Procedure name cards)) (append_assoc before (row ∷ []) rows)

-- the records of a set
abbrev with_records : SetStatement → List (List ℕ) → BlockLines
with_records set records = lines.Set (record set { records = records })

abbrev set_told : Bool → SetStatement → Bool → List (List ℕ) → Says
set_told has_end set bad records = cond bad (says.Refused fault.BadValue) (says.Config (config.Set (record set { records = records })) has_end)

set_says_it : (has_end : Bool) (set : SetStatement) → lines_say has_end (lines.Set set) ≡ says.Config (config.Set set) has_end
set_says_it true set = refl
set_says_it false set = refl

set_by : (has_end : Bool) (set : SetStatement) (row : List ℕ) (rows : List (List ℕ)) (b : Bool) → is_no_record row ≡ b →
    (told has_end (fold with_line (good (with_records set (set.records ++ filled row ∷ []))) rows)
    ≡ set_told has_end set (list_any is_no_record rows) ((set.records ++ filled row ∷ []) ++ map filled rows)) →
    told has_end (fold with_line (with_line (good (lines.Set set)) row) rows)
    ≡ set_told has_end set (list_any is_no_record (row ∷ rows)) (set.records ++ map filled (row ∷ rows))
set_by has_end set row rows true is more = rw is (fault_told has_end fault.BadValue _ rows)
set_by has_end set row rows false is more =
    rw is (more ∙ ap (set_told has_end set (list_any is_no_record rows)) (append_assoc set.records (filled row ∷ []) (map filled rows)))

set_taken : (has_end : Bool) (set : SetStatement) (rows : List (List ℕ)) →
    told has_end (fold with_line (good (lines.Set set)) rows) ≡ set_told has_end set (list_any is_no_record rows) (set.records ++ map filled rows)
set_taken has_end set [] = set_says_it has_end set ∙ ap (set_told has_end set false) (sym (append-nil set.records))
set_taken has_end set (row ∷ rows) =
    set_by has_end set row rows (is_no_record row) refl (set_taken has_end (record set { records = set.records ++ filled row ∷ [] }) rows)

-- the requests of a program
abbrev program_at : List ℕ → List Request → Bool → BlockLines
program_at name requests ended = lines.Program (record { name = name; requests = requests; ended = ended })

program_says_it : (has_end : Bool) (program : ProgramLines) → lines_say has_end (lines.Program program) ≡ program_told program has_end
program_says_it true program = refl
program_says_it false program = refl

abbrev behind : List Request → Option (List Request) → Option (List Request)
behind before None = None
behind before (Some requests) = Some (before ++ requests)

behind_more : (before : List Request) (request : Request) (others : Option (List Request)) →
    behind (before ++ request ∷ []) others ≡ behind before (option_map (λ requests. request ∷ requests) others)
behind_more before request None = refl
behind_more before request (Some requests) = ap Some (append_assoc before (request ∷ []) requests)

behind_none : (others : Option (List Request)) → behind [] others ≡ others
behind_none None = refl
behind_none (Some requests) = refl

-- the program behind one line more, by what the line asks for
abbrev program_by : List ℕ → List Request → Option Request → Begun
program_by name before found = record {
  lines = lines.Program (with_request (record { name = name; requests = before; ended = false }) found);
  fault = kept_or_bad (is_some found);
}

last_by : (name : List ℕ) (before : List Request) (has_end : Bool) (found : Option Request) →
    told has_end (program_by name before found) ≡ program_says name (behind before (last_request found)) has_end
last_by name before has_end None = refl
last_by name before has_end (Some request) = by (is_ending request)
  where
    by : (b : Bool) → told has_end (good (program_at name (before ++ request ∷ []) b)) ≡ program_says name (behind before (cond b (Some (request ∷ [])) None)) has_end
    by true = program_says_it has_end _
    by false = program_says_it has_end _

more_by : (name : List ℕ) (before : List Request) (has_end : Bool) (found : Option Request) (next : List ℕ) (rows : List (List ℕ)) →
    ((request : Request) → told has_end (fold with_line (good (program_at name (before ++ request ∷ []) false)) (next ∷ rows))
    ≡ program_says name (behind (before ++ request ∷ []) (requests_of (next ∷ rows))) has_end) →
    told has_end (fold with_line (program_by name before found) (next ∷ rows))
    ≡ program_says name (behind before (more_requests found (requests_of (next ∷ rows)))) has_end
more_by name before has_end None next rows more = fault_told has_end fault.BadValue _ (next ∷ rows)
more_by name before has_end (Some request) next rows more = by (is_ending request)
  where
    by : (b : Bool) → told has_end (fold with_line (good (program_at name (before ++ request ∷ []) b)) (next ∷ rows))
        ≡ program_says name (behind before (cond b None (option_map (λ requests. request ∷ requests) (requests_of (next ∷ rows))))) has_end
    by true = fault_told has_end fault.BadValue _ rows
    by false =
        more request
        ∙ ap (λ (requests : Option (List Request)). program_says name requests has_end) (behind_more before request (requests_of (next ∷ rows)))

program_taken : (name : List ℕ) (before : List Request) (has_end : Bool) (rows : List (List ℕ)) →
    told has_end (fold with_line (good (program_at name before false)) rows) ≡ program_says name (behind before (requests_of rows)) has_end
program_taken name before has_end [] = program_says_it has_end _
program_taken name before has_end (row ∷ []) = last_by name before has_end (request_of row)
program_taken name before has_end (row ∷ next ∷ rows) =
    more_by name before has_end (request_of row) next rows (λ request. program_taken name (before ++ request ∷ []) has_end (next ∷ rows))

program_whole : (name : List ℕ) (has_end : Bool) (rows : List (List ℕ)) →
    told has_end (fold with_line (good (program_at name [] false)) rows) ≡ program_says name (requests_of rows) has_end
program_whole name has_end rows =
    program_taken name [] has_end rows
    ∙ ap (λ (requests : Option (List Request)). program_says name requests has_end) (behind_none (requests_of rows))

-- a block with its END
pub taken_says : (block : Block) (rows : List (List ℕ)) → told_at_end (taken block rows) ≡ block_says block rows
taken_says Deck rows = ap told_at_end (deck_taken [] rows)
taken_says (Procedure name) rows = ap told_at_end (procedure_taken name [] rows)
taken_says (Set set) rows = set_taken true (record set { records = [] }) rows
taken_says (Program name) rows = program_whole name true rows
taken_says (Faulty own) rows = fault_told true own (lines.Deck []) rows

taken_open : (block : Block) (rows : List (List ℕ)) → told_open (taken block rows) ≡ left_open block rows
taken_open Deck rows = ap told_open (deck_taken [] rows)
taken_open (Procedure name) rows = ap told_open (procedure_taken name [] rows)
taken_open (Set set) rows = set_taken false (record set { records = [] }) rows
taken_open (Program name) rows = program_whole name false rows
taken_open (Faulty own) rows = fault_told false own (lines.Deck []) rows

-- a block that the text's end leaves open
pub taken_cut : (ending : Ending) (block : Block) (rows : List (List ℕ)) → told_cut ending (taken block rows) ≡ open_says ending block rows
taken_cut Whole block rows = taken_open block rows
taken_cut TooLong block rows = refl
taken_cut ReadFailed block rows = refl
