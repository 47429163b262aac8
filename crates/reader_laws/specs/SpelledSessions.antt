-- How a session is spelled. (This profile)
use Rattle.std.specs.Prelude.{◌≡◌, ◌≤◌, ◌+◌, ◌-◌, ℕ, ◌==◌, nat_lt, Bool, true, false, ◌&&◌, List, [], ◌∷◌, ◌++◌, map, length, codes, if◌then◌else◌}
use Rattle.std.specs.List.{flat_map, join_with_byte, list_all}
use Rattle.hex.specs.Hex.{encode_lower, encode_upper}
use Rattle.cb_meaning.specs.declared.layout.TheConstants.{QUEUE_LAYOUT, RECORD_BYTES}
use Rattle.session_input.specs.declared.event.TheConstants.{FIRST_OPEN}
use Rattle.session_input.specs.declared.event.Event.TheVariants as event
use Rattle.session_input.specs.declared.statement.ConfigStatement.{ConfigStatement}
use Rattle.session_input.specs.declared.statement.ConfigStatement.TheVariants as config
use Rattle.session_text.specs.declared.statement.Says.{Says}
use Rattle.session_text.specs.declared.statement.Says.TheVariants as says
use Rattle.session_text.specs.declared.statement.Statement.{Statement}
use Rattle.session_text.specs.Statements.{stays_within}
use Rattle.reader_laws.specs.Spelled.{is_among, is_name, name_characters}
use Rattle.reader_laws.specs.SpelledDates.{IsDay, IsDayOrNone, day_text, expiry_fields}
use Rattle.reader_laws.specs.SpelledForms.{Form, is_card, is_serial, is_word, line_with, number}
use Rattle.reader_laws.specs.SpelledStores.{IsSetName, flag_field, is_ended, is_extent, is_record, is_request, request_line, used_fields}

-- `x*n`, or `x` for `x*1`
abbrev pub times : Form → List ℕ → ℕ → List ℕ
times form text n = if form.short && n == 1 then text else text ++ (codes "*" ++ number form n)

-- bytes by two hexadecimal digits each
abbrev pub hex_digits : Form → List ℕ → List ℕ
hex_digits form bytes = if form.short then encode_lower bytes else encode_upper bytes

-- `record,offset,hex`
abbrev pub zap_parts : Form → ℕ → ℕ → List ℕ → List (List ℕ)
zap_parts form n offset bytes = number form n ∷ number form offset ∷ hex_digits form bytes ∷ []

-- the fields of a statement's line, behind the first
abbrev pub config_fields : Form → ConfigStatement → List (List ℕ)
config_fields form (config.Volume serial tracks used) = codes "VOLUME" ∷ serial ∷ number form tracks ∷ used_fields form used
config_fields form (config.Unit name serials) = codes "UNIT" ∷ name ∷ join_with_byte 44 serials ∷ []
config_fields form (config.Group base limit scratch) = codes "GROUP" ∷ base ∷ number form limit ∷ flag_field (codes "SCRATCH") scratch
config_fields form (config.Set set) = codes "SET" ∷ set.name ∷ set.serial ∷ number form set.tracks
    ∷ (flag_field (codes "CAT") set.catalogued ++ expiry_fields set.expires)
config_fields form (config.Procedure name lines) = codes "PROC" ∷ name ∷ []
config_fields form (config.Program name requests) = codes "PROGRAM" ∷ name ∷ []
config_fields form (config.Initiator n classes) = codes "INIT" ∷ number form n ∷ classes ∷ []

abbrev pub fields_of : Form → Says → List (List ℕ)
fields_of form (says.Config statement has_end) = config_fields form statement
fields_of form (says.Events (event.Read cards) n) = codes "READ" ∷ []
fields_of form (says.Events (event.Turn i) n) = codes "TURN" ∷ times form (number form i) n ∷ []
fields_of form (says.Events (event.Write class) n) = codes "WRITE" ∷ times form (class ∷ []) n ∷ []
fields_of form (says.Events (event.DeviceEnd serial) n) = codes "DEV" ∷ serial ∷ []
fields_of form (says.Events (event.Cancel job) n) = codes "CANCEL" ∷ number form job ∷ []
fields_of form (says.Events (event.Zap n offset bytes) m) = codes "ZAP" ∷ join_with_byte 44 (zap_parts form n offset bytes) ∷ []
fields_of form (says.Events event.Display n) = codes "DISPLAY" ∷ []
fields_of form (says.Events (event.Date day) n) = codes "DATE" ∷ day_text day ∷ []
fields_of form (says.Refused fault) = []

-- READ is followed by its cards and END, and so are PROC, SET and PROGRAM by their lines
abbrev pub to_end : Form → List (List ℕ) → List (List ℕ)
to_end form cards = cards ++ line_with form (codes "END" ∷ []) ∷ []

abbrev pub config_block : Form → ConfigStatement → List (List ℕ)
config_block form (config.Volume serial tracks used) = []
config_block form (config.Unit name serials) = []
config_block form (config.Group base limit scratch) = []
config_block form (config.Set set) = to_end form set.records
config_block form (config.Procedure name lines) = to_end form lines
config_block form (config.Program name requests) = to_end form (map (request_line form) requests)
config_block form (config.Initiator n classes) = []

abbrev pub block_of : Form → Says → List (List ℕ)
block_of form (says.Config statement has_end) = config_block form statement
block_of form (says.Events (event.Read cards) n) = to_end form cards
block_of form (says.Events (event.Turn i) n) = []
block_of form (says.Events (event.Write class) n) = []
block_of form (says.Events (event.DeviceEnd serial) n) = []
block_of form (says.Events (event.Cancel job) n) = []
block_of form (says.Events (event.Zap n offset bytes) m) = []
block_of form (says.Events event.Display n) = []
block_of form (says.Events (event.Date day) n) = []
block_of form (says.Refused fault) = []

abbrev pub lines_of : Form → Says → List (List ℕ)
lines_of form s = line_with form (fields_of form s) ∷ block_of form s

abbrev pub ended : Bool → List ℕ → List ℕ
ended returns line = line ++ (if returns then 13 ∷ 10 ∷ [] else 10 ∷ [])

-- a statement and how it is spelled
pub record Spelled : Type 0 where
  pub form : Form
  pub says : Says

abbrev pub text_of : List Spelled → List ℕ
text_of session = flat_map (λ s. flat_map (ended s.form.returns) (lines_of s.form s.says)) session

-- the statements, each with the number of its first line
abbrev pub numbered : ℕ → List Spelled → List Statement
numbered n [] = []
numbered n (s ∷ session) = record { line = n; says = s.says } ∷ numbered (n + length (lines_of s.form s.says)) session

abbrev pub is_unit : List ℕ → Bool
is_unit text = is_word 8 name_characters text

abbrev pub class_characters : List ℕ
class_characters = codes "ABCDEFGHIJKLMNOPQRSTUVWXYZ0123456789"

abbrev pub is_nonempty : List (List ℕ) → Bool
is_nonempty [] = false
is_nonempty (x ∷ xs) = true

abbrev pub is_byte : ℕ → Bool
is_byte b = nat_lt b 256

-- what can be spelled
abbrev pub IsConfigStatement : ConfigStatement → Type 0
IsConfigStatement (config.Volume serial tracks used) = (is_serial serial ≡ true) × (tracks ≤ 65535) × (list_all is_extent used ≡ true)
IsConfigStatement (config.Unit name serials) = (is_unit name ≡ true) × (is_nonempty serials ≡ true) × (list_all is_serial serials ≡ true)
IsConfigStatement (config.Group base limit scratch) = IsSetName 35 base × (limit ≤ 65535)
IsConfigStatement (config.Set set) =
    IsSetName 44 set.name × (is_serial set.serial ≡ true) × (set.tracks ≤ 65535) × (list_all is_record set.records ≡ true)
    × (list_all is_card set.records ≡ true) × IsDayOrNone set.expires
IsConfigStatement (config.Procedure name lines) = (is_name name ≡ true) × (list_all is_card lines ≡ true)
IsConfigStatement (config.Program name requests) = (is_name name ≡ true) × (list_all is_request requests ≡ true) × (is_ended requests ≡ true)
IsConfigStatement (config.Initiator n classes) = (n ≤ 65535) × (is_word 8 (codes "ABCDEFGHIJKLMNO") classes ≡ true)

-- every block has its END
abbrev pub IsSaid : Says → Type 0
IsSaid (says.Config statement true) = IsConfigStatement statement
IsSaid (says.Config statement false) = ⊥
IsSaid (says.Events (event.Read cards) n) = (n ≡ 1) × (list_all is_card cards ≡ true)
IsSaid (says.Events (event.Turn i) n) = (1 ≤ i) × (i ≤ 15) × (1 ≤ n) × (n ≤ 9999)
IsSaid (says.Events (event.Write class) n) = (is_among class_characters class ≡ true) × (1 ≤ n) × (n ≤ 9999)
IsSaid (says.Events (event.DeviceEnd serial) n) = (is_serial serial ≡ true) × (n ≡ 1)
IsSaid (says.Events (event.Cancel job) n) = (1 ≤ job) × (job ≤ 9999) × (n ≡ 1)
IsSaid (says.Events (event.Zap n offset bytes) m) =
    (1 ≤ n) × (n ≤ QUEUE_LAYOUT.most_records) × (FIRST_OPEN ≤ offset) × (offset ≤ RECORD_BYTES - 1) × (list_all is_byte bytes ≡ true)
    × (stays_within offset (length bytes) ≡ true) × (m ≡ 1)
IsSaid (says.Events event.Display n) = n ≡ 1
IsSaid (says.Events (event.Date day) n) = IsDay day × (n ≡ 1)
IsSaid (says.Refused fault) = ⊥
