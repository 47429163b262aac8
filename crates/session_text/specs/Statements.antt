-- The statements of a session. (This profile)
use Rattle.std.specs.Prelude.{◌≡◌, ℕ, ◌+◌, ◌-◌, ◌++◌, Bool, true, false, not, ◌&&◌, nat_le, List, [], ◌∷◌, length, take, drop, codes, Option, Some, None, is_none, if◌then◌else◌}
use Rattle.std.specs.List.{list_any, position}
use Rattle.std.specs.Result.{result_ok}
use Rattle.std.specs.Str.{bytes_eq}
use Rattle.hex.specs.Hex.{decode_of}
use Rattle.cb_meaning.specs.declared.layout.TheConstants.{QUEUE_LAYOUT, RECORD_BYTES}
use Rattle.session_input.specs.declared.event.TheConstants.{FIRST_OPEN, MOST_ZAPPED}
use Rattle.extent_core.specs.declared.extent.Extent.{Extent}
use Rattle.jname_core.specs.Faults.{is_no_serial, name8_fault, unit_name_fault}
use Rattle.session_input.specs.declared.statement.ConfigStatement.{ConfigStatement}
use Rattle.session_input.specs.declared.statement.ConfigStatement.TheVariants as config
use Rattle.session_input.specs.declared.event.Event.TheVariants as event
use Rattle.session_text.specs.declared.fault.Fault.TheVariants as fault
use Rattle.session_text.specs.declared.statement.Block.{Block}
use Rattle.session_text.specs.declared.statement.Block.TheVariants.{Deck, Procedure, Set, Program, Faulty}
use Rattle.session_text.specs.declared.statement.Ending.{Ending}
use Rattle.session_text.specs.declared.statement.Ending.TheVariants.{Whole, TooLong, ReadFailed}
use Rattle.session_text.specs.declared.statement.LineSays.{LineSays}
use Rattle.session_text.specs.declared.statement.LineSays.TheVariants as line
use Rattle.session_text.specs.declared.statement.Says.{Says}
use Rattle.session_text.specs.declared.statement.Says.TheVariants as says
use Rattle.session_text.specs.declared.statement.Statement.{Statement}
use Rattle.jname_core.specs.Decimals.{number_within}
use Rattle.date_core.specs.Written.{written_day}
use Rattle.session_text.specs.Blocks.{block_says, open_says}
use Rattle.session_text.specs.Fields.{base_in, before_star, class_of, fields_of, flag_of, is_marked, listed_in, name_in, serial_in, set_name_in, times_in}
use Rattle.session_text.specs.Lines.{lines_of}
use Rattle.session_text.specs.Volumes.{used_of}

abbrev pub bad : Says
bad = says.Refused fault.BadValue

-- configuration on one line
abbrev pub configures : ConfigStatement → Says
configures s = says.Config s true

-- `./ VOLUME serial tracks [USED list]`
abbrev pub volume_with : Option (List ℕ) → Option ℕ → Option (List Extent) → Says
volume_with None tracks used = bad
volume_with (Some serial) None used = bad
volume_with (Some serial) (Some tracks) None = bad
volume_with (Some serial) (Some tracks) (Some used) = configures (config.Volume serial tracks used)

abbrev pub volume_of : List (List ℕ) → Says
volume_of [] = bad
volume_of (serial ∷ []) = bad
volume_of (serial ∷ tracks ∷ behind) = volume_with (serial_in serial) (number_within 0 65535 tracks) (used_of behind)

-- `./ UNIT name serial[,serial..]`
abbrev pub unit_with : List ℕ → List (List ℕ) → Says
unit_with name serials = if is_none (unit_name_fault name) && not (list_any is_no_serial serials) then configures (config.Unit name serials) else bad

abbrev pub unit_of : List (List ℕ) → Says
unit_of (name ∷ serials ∷ []) = unit_with name (listed_in serials)
unit_of _ = bad

-- `./ GROUP base limit [SCRATCH]`
abbrev pub group_with : Option (List ℕ) → Option ℕ → Option Bool → Says
group_with None limit scratch = bad
group_with (Some base) None scratch = bad
group_with (Some base) (Some limit) None = bad
group_with (Some base) (Some limit) (Some scratch) = configures (config.Group base limit scratch)

abbrev pub group_of : List (List ℕ) → Says
group_of [] = bad
group_of (base ∷ []) = bad
group_of (base ∷ limit ∷ behind) = group_with (base_in base) (number_within 0 65535 limit) (flag_of (codes "SCRATCH") behind)

-- `./ INIT i classes`
abbrev pub initiator_with : Option ℕ → List ℕ → Says
initiator_with None classes = bad
initiator_with (Some number) classes = configures (config.Initiator number classes)

abbrev pub initiator_of : List (List ℕ) → Says
initiator_of (number ∷ classes ∷ []) = initiator_with (number_within 0 65535 number) classes
initiator_of _ = bad

-- `./ TURN i[*n]`
abbrev pub turns_with : Option ℕ → Option ℕ → Says
turns_with None times = bad
turns_with (Some i) None = bad
turns_with (Some i) (Some times) = says.Events (event.Turn i) times

abbrev pub turns_of : List (List ℕ) → Says
turns_of (text ∷ []) = turns_with (number_within 1 15 (before_star text)) (times_in text)
turns_of _ = bad

-- `./ WRITE class[*n]`
abbrev pub writes_with : Option ℕ → Option ℕ → Says
writes_with None times = bad
writes_with (Some class) None = bad
writes_with (Some class) (Some times) = says.Events (event.Write class) times

abbrev pub writes_of : List (List ℕ) → Says
writes_of (text ∷ []) = writes_with (class_of (before_star text)) (times_in text)
writes_of _ = bad

-- `./ DEV serial`
abbrev pub device_end_with : Option (List ℕ) → Says
device_end_with None = bad
device_end_with (Some serial) = says.Events (event.DeviceEnd serial) 1

abbrev pub device_end_of : List (List ℕ) → Says
device_end_of (serial ∷ []) = device_end_with (serial_in serial)
device_end_of _ = bad

-- `./ CANCEL jobno`
abbrev pub cancel_with : Option ℕ → Says
cancel_with None = bad
cancel_with (Some job) = says.Events (event.Cancel job) 1

abbrev pub cancel_of : List (List ℕ) → Says
cancel_of (job ∷ []) = cancel_with (number_within 1 9999 job)
cancel_of _ = bad

-- `./ ZAP record,offset,hex`: one to 32 bytes, by hexadecimal digits of either case, that stay within the record
abbrev pub bytes_in : List ℕ → Option (List ℕ)
bytes_in text = result_ok (decode_of text)

abbrev pub stays_within : ℕ → ℕ → Bool
stays_within offset count = nat_le 1 count && nat_le count MOST_ZAPPED && nat_le (offset + count) RECORD_BYTES

abbrev pub zap_within : ℕ → ℕ → List ℕ → Says
zap_within n offset bytes = if stays_within offset (length bytes) then says.Events (event.Zap n offset bytes) 1 else bad

abbrev pub zap_with : Option ℕ → Option ℕ → Option (List ℕ) → Says
zap_with None offset bytes = bad
zap_with (Some n) None bytes = bad
zap_with (Some n) (Some offset) None = bad
zap_with (Some n) (Some offset) (Some bytes) = zap_within n offset bytes

abbrev pub zap_by : List (List ℕ) → Says
zap_by (n ∷ offset ∷ hex ∷ []) =
    zap_with (number_within 1 QUEUE_LAYOUT.most_records n) (number_within FIRST_OPEN (RECORD_BYTES - 1) offset) (bytes_in hex)
zap_by _ = bad

abbrev pub zap_of : List (List ℕ) → Says
zap_of (operand ∷ []) = zap_by (listed_in operand)
zap_of _ = bad

-- `./ DISPLAY`
abbrev pub display_of : List (List ℕ) → Says
display_of [] = says.Events event.Display 1
display_of (operand ∷ operands) = bad

-- `./ DATE yyyy/ddd`
abbrev pub date_with : Option ℕ → Says
date_with None = bad
date_with (Some day) = says.Events (event.Date day) 1

abbrev pub date_of : List (List ℕ) → Says
date_of (text ∷ []) = date_with (written_day text)
date_of _ = bad

-- `./ READ`
abbrev pub deck_of : List (List ℕ) → Block
deck_of [] = Deck
deck_of (operand ∷ operands) = Faulty fault.BadValue

-- `./ PROC name`
abbrev pub procedure_with : List ℕ → Block
procedure_with name = if is_none (name8_fault name) then Procedure name else Faulty fault.BadValue

abbrev pub procedure_of : List (List ℕ) → Block
procedure_of (name ∷ []) = procedure_with name
procedure_of _ = Faulty fault.BadValue

-- `./ SET name serial tracks [CAT] [EXPDT yyyy/ddd]`: its end is empty, or the word and a day
abbrev pub has_word : List ℕ → List (List ℕ) → Bool
has_word word [] = false
has_word word (field ∷ fields) = bytes_eq field word

abbrev pub behind_if : Bool → List (List ℕ) → List (List ℕ)
behind_if true fields = drop 1 fields
behind_if false fields = fields

abbrev pub or_bad : Option ℕ → Option (Option ℕ)
or_bad None = None
or_bad (Some day) = Some (Some day)

abbrev pub expires_of : List (List ℕ) → Option (Option ℕ)
expires_of [] = Some None
expires_of (word ∷ day ∷ []) = if bytes_eq word (codes "EXPDT") then or_bad (written_day day) else None
expires_of _ = None

abbrev pub set_with : Option (List ℕ) → Option (List ℕ) → Option ℕ → Bool → Option (Option ℕ) → Block
set_with None serial tracks catalogued expires = Faulty fault.BadValue
set_with (Some name) None tracks catalogued expires = Faulty fault.BadValue
set_with (Some name) (Some serial) None catalogued expires = Faulty fault.BadValue
set_with (Some name) (Some serial) (Some tracks) catalogued None = Faulty fault.BadValue
set_with (Some name) (Some serial) (Some tracks) catalogued (Some expires) =
    Set (record { name = name; serial = serial; tracks = tracks; catalogued = catalogued; expires = expires; records = [] })

abbrev pub set_of : List (List ℕ) → Block
set_of [] = Faulty fault.BadValue
set_of (name ∷ []) = Faulty fault.BadValue
set_of (name ∷ serial ∷ []) = Faulty fault.BadValue
set_of (name ∷ serial ∷ tracks ∷ behind) =
    set_with (set_name_in name) (serial_in serial) (number_within 0 65535 tracks) (has_word (codes "CAT") behind)
    (expires_of (behind_if (has_word (codes "CAT") behind) behind))

-- `./ PROGRAM name`
abbrev pub program_with : Option (List ℕ) → Block
program_with None = Faulty fault.BadValue
program_with (Some name) = Program name

abbrev pub program_of : List (List ℕ) → Block
program_of (name ∷ []) = program_with (name_in name)
program_of _ = Faulty fault.BadValue

-- events
abbrev pub event_by : List ℕ → List (List ℕ) → LineSays
event_by word operands =
    if bytes_eq word (codes "READ") then line.Opens (deck_of operands)
    else (if bytes_eq word (codes "TURN") then line.One (turns_of operands)
    else (if bytes_eq word (codes "DEV") then line.One (device_end_of operands)
    else (if bytes_eq word (codes "WRITE") then line.One (writes_of operands)
    else (if bytes_eq word (codes "CANCEL") then line.One (cancel_of operands)
    else (if bytes_eq word (codes "ZAP") then line.One (zap_of operands)
    else (if bytes_eq word (codes "DISPLAY") then line.One (display_of operands)
    else (if bytes_eq word (codes "DATE") then line.One (date_of operands)
    else line.One (says.Refused fault.UnknownStatement))))))))

-- configuration, or an event
abbrev pub says_by : List ℕ → List (List ℕ) → LineSays
says_by word operands =
    if bytes_eq word (codes "VOLUME") then line.One (volume_of operands)
    else (if bytes_eq word (codes "UNIT") then line.One (unit_of operands)
    else (if bytes_eq word (codes "GROUP") then line.One (group_of operands)
    else (if bytes_eq word (codes "SET") then line.Opens (set_of operands)
    else (if bytes_eq word (codes "PROC") then line.Opens (procedure_of operands)
    else (if bytes_eq word (codes "PROGRAM") then line.Opens (program_of operands)
    else (if bytes_eq word (codes "INIT") then line.One (initiator_of operands)
    else event_by word operands))))))

abbrev pub says_in : Bool → List (List ℕ) → LineSays
says_in marked [] = line.Blank
says_in marked (mark ∷ []) = line.One (says.Refused fault.UnknownStatement)
says_in true (mark ∷ word ∷ operands) = says_by word operands
says_in false (mark ∷ word ∷ operands) = line.One (says.Refused fault.UnknownStatement)

-- what a line outside a block says
abbrev pub says_of : List ℕ → LineSays
says_of text = says_in (is_marked text) (fields_of text)

-- a line that ends a block
abbrev pub is_end_by : List (List ℕ) → Bool
is_end_by (mark ∷ word ∷ []) = bytes_eq word (codes "END")
is_end_by _ = false

abbrev pub is_end : List ℕ → Bool
is_end text = is_marked text && is_end_by (fields_of text)

abbrev pub statement_at : ℕ → Says → Statement
statement_at n s = record { line = n; says = s }

-- what stands in the place of a statement that was cut, behind the last line
abbrev pub at_end : Ending → ℕ → List Statement
at_end Whole n = []
at_end TooLong n = statement_at n (says.Refused fault.TooLong) ∷ []
at_end ReadFailed n = statement_at n (says.Refused fault.ReadFailed) ∷ []

-- a block that begins with line n: its lines are the rows before its END
abbrev pub block_to : Option ℕ → Ending → ℕ → Block → List (List ℕ) → List Statement → List Statement
block_to None ending n block rows behind = statement_at n (open_says ending block rows) ∷ []
block_to (Some end) ending n block rows behind = statement_at n (block_says block (take end rows)) ∷ behind

-- What begins with line n, by what it says. Of the rows behind it two readings are at hand: next, where they are statements, and behind,
-- where they are a block, the statements behind its END.
abbrev pub by_line : LineSays → Ending → ℕ → List (List ℕ) → List Statement → List Statement → List Statement
by_line line.Blank ending n rows next behind = next
by_line (line.One s) ending n rows next behind = statement_at n s ∷ next
by_line (line.Opens block) ending n rows next behind = block_to (position is_end rows) ending n block rows behind

abbrev mutual
  -- the statements of rows, the first of which is line n
  pub statements_from : Ending → ℕ → List (List ℕ) → List Statement
  statements_from ending n [] = at_end ending n
  statements_from ending n (row ∷ rows) = by_line (says_of row) ending n rows (statements_from ending (n + 1) rows) (behind_end ending (n + 1) rows)

  -- the statements behind the first END of rows
  pub behind_end : Ending → ℕ → List (List ℕ) → List Statement
  behind_end ending n [] = []
  behind_end ending n (row ∷ rows) = if is_end row then statements_from ending (n + 1) rows else behind_end ending (n + 1) rows

abbrev pub statements_of : Ending → List ℕ → List Statement
statements_of ending text = statements_from ending 1 (lines_of ending text)

-- the block that begins with line n and before these rows, and what stands behind it
abbrev pub block_with : Ending → ℕ → Block → List (List ℕ) → List Statement
block_with ending n block rows = block_to (position is_end rows) ending n block rows (behind_end ending (n + 1) rows)

-- The block that begins with line n and before this text is taken: the rest of the text is left, and its first line is the next.
abbrev pub TakesBlock : Ending → List Statement → ℕ → Block → List ℕ → List Statement → ℕ → List ℕ → Type 0
TakesBlock ending before n block text after next rest =
    after ++ statements_from ending next (lines_of ending rest) ≡ before ++ block_with ending n block (lines_of ending text)

-- so is what begins with line n, which is this row
abbrev pub TakesStatement : Ending → List Statement → ℕ → List ℕ → List ℕ → List Statement → ℕ → List ℕ → Type 0
TakesStatement ending before n row text after next rest =
    after ++ statements_from ending next (lines_of ending rest) ≡ before ++ statements_from ending n (row ∷ lines_of ending text)
