-- Kinds of faults that no statement of a text has itself, and that its session does not tell.
use Rattle.std.proofs.Common.{◌≡◌, ℕ, ◌+◌, ◌-◌, Bool, true, false, cond, ◌&&◌, not, List, [], ◌∷◌, ◌++◌, length, map, Option, Some, None, position, is_none, codes, refl}
use Rattle.std.specs.List.{list_any}
use Rattle.std.specs.Str.{bytes_eq}
use Rattle.jname_core.specs.Faults.{is_no_serial, name8_fault, unit_name_fault}
use Rattle.machine_meaning.specs.declared.config.ConfigFault.{ConfigFault}
use Rattle.machine_meaning.specs.declared.config.ConfigFault.TheVariants as config
use Rattle.cb_meaning.specs.declared.layout.TheConstants.{QUEUE_LAYOUT, RECORD_BYTES}
use Rattle.config_core.specs.Configs.{config_fault}
use Rattle.session_input.specs.declared.event.Event.TheVariants as event
use Rattle.session_input.specs.declared.event.TheConstants.{FIRST_OPEN}
use Rattle.session_input.specs.declared.statement.ConfigStatement.TheVariants as statement
use Rattle.session_input.specs.declared.statement.SetStatement.{SetStatement}
use Rattle.session_text.specs.declared.fault.Fault.{Fault}
use Rattle.session_text.specs.declared.fault.Fault.TheVariants as fault
use Rattle.session_text.specs.declared.statement.Ending.{Ending}
use Rattle.session_text.specs.declared.statement.Ending.TheVariants.{Whole, TooLong, ReadFailed}
use Rattle.session_text.specs.declared.statement.LineSays.{LineSays}
use Rattle.session_text.specs.declared.statement.LineSays.TheVariants as line
use Rattle.session_text.specs.declared.statement.Says.{Says}
use Rattle.session_text.specs.declared.statement.Block.{Block}
use Rattle.session_text.specs.declared.statement.Block.TheVariants.{Deck, Faulty, Procedure, Program, Set}
use Rattle.session_text.specs.declared.statement.Says.TheVariants.{Config, Events, Refused}
use Rattle.session_text.specs.declared.statement.Statement.{Statement}
use Rattle.jname_core.specs.Decimals.{number_within}
use Rattle.session_text.specs.Blocks.{block_says, left_open, open_says, program_says, set_says}
use Rattle.date_core.specs.Written.{written_day}
use Rattle.session_text.specs.Fields.{base_in, before_star, class_of, fields_of, flag_of, is_marked, listed_in, name_in, serial_in, set_name_in, times_in}
use Rattle.session_text.specs.Lines.{lines_of}
use Rattle.session_text.specs.Programs.{requests_of}
use Rattle.session_text.specs.Records.{filled, is_no_record}
use Rattle.session_text.specs.Statements.{at_end, behind_end, block_to, by_line, cancel_of, cancel_with, configures, date_of, date_with, deck_of, device_end_of, device_end_with, display_of}
use Rattle.session_text.specs.Statements.{event_by, group_of, group_with, initiator_of, initiator_with, is_end, procedure_of, program_of, program_with, says_by, says_in}
use Rattle.session_text.specs.Statements.{says_of, set_of, set_with, statements_from, statements_of, turns_of, turns_with, unit_of, volume_of, volume_with, writes_of}
use Rattle.session_text.specs.Statements.{behind_if, bytes_in, expires_of, has_word, stays_within, writes_with, zap_by, zap_of, zap_with}
use Rattle.session_text.specs.Volumes.{used_of}
use Rattle.session_core.specs.Sessions.{Session, configuration_of, fault_behind, has_begun, session_behind, session_by, session_of, unless_late}

abbrev option_kind : (Fault → Bool) → Option Fault → Bool
option_kind kind None = false
option_kind kind (Some f) = kind f

abbrev block_kind : (Fault → Bool) → Block → Bool
block_kind kind Deck = false
block_kind kind (Procedure name) = false
block_kind kind (Set set) = false
block_kind kind (Program name) = false
block_kind kind (Faulty own) = kind own

abbrev says_kind : (Fault → Bool) → Says → Bool
says_kind kind (Refused f) = kind f
says_kind kind (Config s has_end) = false
says_kind kind (Events e times) = false

abbrev line_kind : (Fault → Bool) → LineSays → Bool
line_kind kind line.Blank = false
line_kind kind (line.One s) = says_kind kind s
line_kind kind (line.Opens block) = block_kind kind block

-- none of these statements has a fault of this kind itself
abbrev AreFree : (Fault → Bool) → List Statement → Type 0
AreFree kind [] = Unit {0}
AreFree kind (s ∷ statements) = (says_kind kind s.says ≡ false) × AreFree kind statements

-- what is told is of this kind
abbrev pub told_kind : (Fault → Bool) → Option (Fault × ℕ) → Bool
told_kind kind None = false
told_kind kind (Some told) = kind told.0

either : {A : Type 0} (p : A → Bool) (b : Bool) (x y : A) → p x ≡ false → p y ≡ false → p (cond b x y) ≡ false
either p true x y first second = first
either p false x y first second = second

module _ (kind : Fault → Bool) (bad : kind fault.BadValue ≡ false) (unknown : kind fault.UnknownStatement ≡ false) where
  volume_with_free : (serial : Option (List ℕ)) (tracks : Option ℕ) (operands : List (List ℕ))
      → says_kind kind (volume_with serial tracks (used_of operands)) ≡ false
  volume_with_free None tracks operands = bad
  volume_with_free (Some serial) None operands = bad
  volume_with_free (Some serial) (Some tracks) operands =
      elim (used_of operands) as (λ used. says_kind kind (volume_with (Some serial) (Some tracks) used) ≡ false) [ None ↦ bad | Some used ↦ refl ]

  volume_free : (operands : List (List ℕ)) → says_kind kind (volume_of operands) ≡ false
  volume_free [] = bad
  volume_free (a ∷ []) = bad
  volume_free (a ∷ b ∷ behind) = volume_with_free (serial_in a) (number_within 0 65535 b) behind

  unit_free : (operands : List (List ℕ)) → says_kind kind (unit_of operands) ≡ false
  unit_free [] = bad
  unit_free (a ∷ []) = bad
  unit_free (a ∷ b ∷ []) =
      either (says_kind kind) (is_none (unit_name_fault a) && not (list_any is_no_serial (listed_in b))) (configures (statement.Unit a (listed_in b))) (Refused fault.BadValue)
      refl bad
  unit_free (a ∷ b ∷ c ∷ rest) = bad

  group_with_free : (base : Option (List ℕ)) (limit : Option ℕ) (scratch : Option Bool) → says_kind kind (group_with base limit scratch) ≡ false
  group_with_free None limit scratch = bad
  group_with_free (Some base) None scratch = bad
  group_with_free (Some base) (Some limit) None = bad
  group_with_free (Some base) (Some limit) (Some scratch) = refl

  group_free : (operands : List (List ℕ)) → says_kind kind (group_of operands) ≡ false
  group_free [] = bad
  group_free (a ∷ []) = bad
  group_free (a ∷ b ∷ behind) = group_with_free (base_in a) (number_within 0 65535 b) (flag_of (codes "SCRATCH") behind)

  initiator_free : (operands : List (List ℕ)) → says_kind kind (initiator_of operands) ≡ false
  initiator_free [] = bad
  initiator_free (a ∷ []) = bad
  initiator_free (a ∷ b ∷ []) = elim (number_within 0 65535 a) as (λ n. says_kind kind (initiator_with n b) ≡ false) [ None ↦ bad | Some n ↦ refl ]
  initiator_free (a ∷ b ∷ c ∷ rest) = bad

  turns_with_free : (i times : Option ℕ) → says_kind kind (turns_with i times) ≡ false
  turns_with_free None times = bad
  turns_with_free (Some i) None = bad
  turns_with_free (Some i) (Some times) = refl

  turns_free : (operands : List (List ℕ)) → says_kind kind (turns_of operands) ≡ false
  turns_free [] = bad
  turns_free (a ∷ []) = turns_with_free (number_within 1 15 (before_star a)) (times_in a)
  turns_free (a ∷ b ∷ rest) = bad

  writes_with_free : (class times : Option ℕ) → says_kind kind (writes_with class times) ≡ false
  writes_with_free None times = bad
  writes_with_free (Some class) None = bad
  writes_with_free (Some class) (Some times) = refl

  writes_free : (operands : List (List ℕ)) → says_kind kind (writes_of operands) ≡ false
  writes_free [] = bad
  writes_free (a ∷ []) = writes_with_free (class_of (before_star a)) (times_in a)
  writes_free (a ∷ b ∷ rest) = bad

  device_with_free : (serial : Option (List ℕ)) → says_kind kind (device_end_with serial) ≡ false
  device_with_free None = bad
  device_with_free (Some serial) = refl

  device_free : (operands : List (List ℕ)) → says_kind kind (device_end_of operands) ≡ false
  device_free [] = bad
  device_free (a ∷ []) = device_with_free (serial_in a)
  device_free (a ∷ b ∷ rest) = bad

  cancel_with_free : (job : Option ℕ) → says_kind kind (cancel_with job) ≡ false
  cancel_with_free None = bad
  cancel_with_free (Some job) = refl

  cancel_free : (operands : List (List ℕ)) → says_kind kind (cancel_of operands) ≡ false
  cancel_free [] = bad
  cancel_free (a ∷ []) = cancel_with_free (number_within 1 9999 a)
  cancel_free (a ∷ b ∷ rest) = bad

  zap_with_free : (n offset : Option ℕ) (bytes : Option (List ℕ)) → says_kind kind (zap_with n offset bytes) ≡ false
  zap_with_free None offset bytes = bad
  zap_with_free (Some n) None bytes = bad
  zap_with_free (Some n) (Some offset) None = bad
  zap_with_free (Some n) (Some offset) (Some bytes) =
      either (says_kind kind) (stays_within offset (length bytes)) (Events (event.Zap n offset bytes) 1) (Refused fault.BadValue) refl bad

  zap_by_free : (parts : List (List ℕ)) → says_kind kind (zap_by parts) ≡ false
  zap_by_free [] = bad
  zap_by_free (n ∷ []) = bad
  zap_by_free (n ∷ offset ∷ []) = bad
  zap_by_free (n ∷ offset ∷ hex ∷ []) =
      zap_with_free (number_within 1 QUEUE_LAYOUT.most_records n) (number_within FIRST_OPEN (RECORD_BYTES - 1) offset) (bytes_in hex)
  zap_by_free (n ∷ offset ∷ hex ∷ another ∷ rest) = bad

  zap_free : (operands : List (List ℕ)) → says_kind kind (zap_of operands) ≡ false
  zap_free [] = bad
  zap_free (a ∷ []) = zap_by_free (listed_in a)
  zap_free (a ∷ b ∷ rest) = bad

  display_free : (operands : List (List ℕ)) → says_kind kind (display_of operands) ≡ false
  display_free [] = refl
  display_free (a ∷ rest) = bad

  date_with_free : (day : Option ℕ) → says_kind kind (date_with day) ≡ false
  date_with_free None = bad
  date_with_free (Some day) = refl

  date_free : (operands : List (List ℕ)) → says_kind kind (date_of operands) ≡ false
  date_free [] = bad
  date_free (a ∷ []) = date_with_free (written_day a)
  date_free (a ∷ b ∷ rest) = bad

  deck_free : (operands : List (List ℕ)) → block_kind kind (deck_of operands) ≡ false
  deck_free [] = refl
  deck_free (a ∷ rest) = bad

  procedure_free : (operands : List (List ℕ)) → block_kind kind (procedure_of operands) ≡ false
  procedure_free [] = bad
  procedure_free (a ∷ []) = either (block_kind kind) (is_none (name8_fault a)) (Procedure a) (Faulty fault.BadValue) refl bad
  procedure_free (a ∷ b ∷ rest) = bad

  set_with_free : (name serial : Option (List ℕ)) (tracks : Option ℕ) (catalogued : Bool) (expires : Option (Option ℕ))
      → block_kind kind (set_with name serial tracks catalogued expires) ≡ false
  set_with_free None serial tracks catalogued expires = bad
  set_with_free (Some name) None tracks catalogued expires = bad
  set_with_free (Some name) (Some serial) None catalogued expires = bad
  set_with_free (Some name) (Some serial) (Some tracks) catalogued None = bad
  set_with_free (Some name) (Some serial) (Some tracks) catalogued (Some expires) = refl

  set_free : (operands : List (List ℕ)) → block_kind kind (set_of operands) ≡ false
  set_free [] = bad
  set_free (a ∷ []) = bad
  set_free (a ∷ b ∷ []) = bad
  set_free (a ∷ b ∷ c ∷ behind) =
      set_with_free (set_name_in a) (serial_in b) (number_within 0 65535 c) (has_word (codes "CAT") behind)
      (expires_of (behind_if (has_word (codes "CAT") behind) behind))

  program_with_free : (name : Option (List ℕ)) → block_kind kind (program_with name) ≡ false
  program_with_free None = bad
  program_with_free (Some name) = refl

  program_free : (operands : List (List ℕ)) → block_kind kind (program_of operands) ≡ false
  program_free [] = bad
  program_free (a ∷ []) = program_with_free (name_in a)
  program_free (a ∷ b ∷ rest) = bad

  event_by_free : (word : List ℕ) (operands : List (List ℕ)) → line_kind kind (event_by word operands) ≡ false
  event_by_free word operands =
      let p = line_kind kind in
      let last = line.One (Refused fault.UnknownStatement) in
      let date = cond (bytes_eq word (codes "DATE")) (line.One (date_of operands)) last in
      let display = cond (bytes_eq word (codes "DISPLAY")) (line.One (display_of operands)) date in
      let zap = cond (bytes_eq word (codes "ZAP")) (line.One (zap_of operands)) display in
      let cancel = cond (bytes_eq word (codes "CANCEL")) (line.One (cancel_of operands)) zap in
      let write = cond (bytes_eq word (codes "WRITE")) (line.One (writes_of operands)) cancel in
      let device = cond (bytes_eq word (codes "DEV")) (line.One (device_end_of operands)) write in
      let turn = cond (bytes_eq word (codes "TURN")) (line.One (turns_of operands)) device in
      either p (bytes_eq word (codes "READ")) (line.Opens (deck_of operands)) turn (deck_free operands)
      (either p (bytes_eq word (codes "TURN")) (line.One (turns_of operands)) device (turns_free operands)
      (either p (bytes_eq word (codes "DEV")) (line.One (device_end_of operands)) write (device_free operands)
      (either p (bytes_eq word (codes "WRITE")) (line.One (writes_of operands)) cancel (writes_free operands)
      (either p (bytes_eq word (codes "CANCEL")) (line.One (cancel_of operands)) zap (cancel_free operands)
      (either p (bytes_eq word (codes "ZAP")) (line.One (zap_of operands)) display (zap_free operands)
      (either p (bytes_eq word (codes "DISPLAY")) (line.One (display_of operands)) date (display_free operands)
      (either p (bytes_eq word (codes "DATE")) (line.One (date_of operands)) last (date_free operands)
      unknown)))))))

  says_by_free : (word : List ℕ) (operands : List (List ℕ)) → line_kind kind (says_by word operands) ≡ false
  says_by_free word operands =
      let p = line_kind kind in
      let last = event_by word operands in
      let initiator = cond (bytes_eq word (codes "INIT")) (line.One (initiator_of operands)) last in
      let program = cond (bytes_eq word (codes "PROGRAM")) (line.Opens (program_of operands)) initiator in
      let procedure = cond (bytes_eq word (codes "PROC")) (line.Opens (procedure_of operands)) program in
      let set = cond (bytes_eq word (codes "SET")) (line.Opens (set_of operands)) procedure in
      let group = cond (bytes_eq word (codes "GROUP")) (line.One (group_of operands)) set in
      let unit = cond (bytes_eq word (codes "UNIT")) (line.One (unit_of operands)) group in
      either p (bytes_eq word (codes "VOLUME")) (line.One (volume_of operands)) unit (volume_free operands)
      (either p (bytes_eq word (codes "UNIT")) (line.One (unit_of operands)) group (unit_free operands)
      (either p (bytes_eq word (codes "GROUP")) (line.One (group_of operands)) set (group_free operands)
      (either p (bytes_eq word (codes "SET")) (line.Opens (set_of operands)) procedure (set_free operands)
      (either p (bytes_eq word (codes "PROC")) (line.Opens (procedure_of operands)) program (procedure_free operands)
      (either p (bytes_eq word (codes "PROGRAM")) (line.Opens (program_of operands)) initiator (program_free operands)
      (either p (bytes_eq word (codes "INIT")) (line.One (initiator_of operands)) last (initiator_free operands)
      (event_by_free word operands)))))))

  says_in_free : (marked : Bool) (fields : List (List ℕ)) → line_kind kind (says_in marked fields) ≡ false
  says_in_free marked [] = refl
  says_in_free marked (mark ∷ []) = unknown
  says_in_free true (mark ∷ word ∷ operands) = says_by_free word operands
  says_in_free false (mark ∷ word ∷ operands) = unknown

  -- the lines of a block
  set_says_free : (set : SetStatement) (lines : List (List ℕ)) (has_end : Bool) → says_kind kind (set_says set lines has_end) ≡ false
  set_says_free set lines has_end =
      either (says_kind kind) (list_any is_no_record lines) (Refused fault.BadValue)
      (Config (statement.Set (record set { records = map filled lines })) has_end) bad refl

  program_says_free : (name : List ℕ) (lines : List (List ℕ)) (has_end : Bool) → says_kind kind (program_says name (requests_of lines) has_end) ≡ false
  program_says_free name lines has_end =
      elim (requests_of lines) as (λ requests. says_kind kind (program_says name requests has_end) ≡ false) [ None ↦ bad | Some requests ↦ refl ]

  module _ (ending : Ending) (no_end : kind fault.NoEnd ≡ false) (long : kind fault.TooLong ≡ false)
      (cut : ending ≡ ReadFailed → kind fault.ReadFailed ≡ false) where
    at_end_by : (e : Ending) (n : ℕ) → ending ≡ e → AreFree kind (at_end e n)
    at_end_by Whole n is = tt
    at_end_by TooLong n is = (long, tt)
    at_end_by ReadFailed n is = (cut is, tt)

    left_free : (block : Block) (lines : List (List ℕ)) → block_kind kind block ≡ false → says_kind kind (left_open block lines) ≡ false
    left_free Deck lines free = no_end
    left_free (Procedure name) lines free = refl
    left_free (Set set) lines free = set_says_free set lines false
    left_free (Program name) lines free = program_says_free name lines false
    left_free (Faulty own) lines free = free

    open_free : (e : Ending) (block : Block) (lines : List (List ℕ)) → ending ≡ e → block_kind kind block ≡ false
        → says_kind kind (open_says e block lines) ≡ false
    open_free TooLong block lines is free = long
    open_free ReadFailed block lines is free = cut is
    open_free Whole block lines is free = left_free block lines free

    ended_free : (block : Block) (lines : List (List ℕ)) → block_kind kind block ≡ false → says_kind kind (block_says block lines) ≡ false
    ended_free Deck lines free = refl
    ended_free (Procedure name) lines free = refl
    ended_free (Set set) lines free = set_says_free set lines true
    ended_free (Program name) lines free = program_says_free name lines true
    ended_free (Faulty own) lines free = free

    block_free : (at : Option ℕ) (n : ℕ) (block : Block) (rows : List (List ℕ)) (behind : List Statement) → block_kind kind block ≡ false
        → AreFree kind behind → AreFree kind (block_to at ending n block rows behind)
    block_free None n block rows behind free more = (open_free ending block rows refl free, tt)
    block_free (Some end) n block rows behind free more = (ended_free block _ free, more)

    line_free : (l : LineSays) (n : ℕ) (rows : List (List ℕ)) (next behind : List Statement) → line_kind kind l ≡ false
        → AreFree kind next → AreFree kind behind → AreFree kind (by_line l ending n rows next behind)
    line_free line.Blank n rows next behind free first second = first
    line_free (line.One s) n rows next behind free first second = (free, first)
    line_free (line.Opens block) n rows next behind free first second = block_free (position is_end rows) n block rows behind free second

    -- the statements of rows, and those behind the first END of them
    rows_free : (n : ℕ) (rows : List (List ℕ)) → AreFree kind (statements_from ending n rows) × AreFree kind (behind_end ending n rows)
    rows_free n [] = (at_end_by ending n refl, tt)
    rows_free n (row ∷ rows) =
        let more = rows_free (n + 1) rows in (
          line_free (says_of row) n rows _ _ (says_in_free (is_marked row) (fields_of row)) more.0 more.1,
          elim (is_end row) as (λ b. AreFree kind (cond b (statements_from ending (n + 1) rows) (behind_end ending (n + 1) rows))) [
            | true ↦ more.0
            | false ↦ more.1
          ],
        )

    module _ (twice : kind fault.DefinedTwice ≡ false) (late : kind fault.LateConfiguration ≡ false) where
      unless_free : (own : Option ConfigFault) (has_end begun : Bool) → option_kind kind (unless_late own has_end begun) ≡ false
      unless_free (Some config.BadValue) has_end begun = bad
      unless_free (Some config.DefinedTwice) has_end begun = twice
      unless_free None false begun = no_end
      unless_free None true true = late
      unless_free None true false = refl

      fault_free : (before : List Statement) (s : Says) → says_kind kind s ≡ false → option_kind kind (fault_behind before s) ≡ false
      fault_free before (Config c has_end) free = unless_free (config_fault (configuration_of before) c) has_end (has_begun before)
      fault_free before (Events e times) free = refl
      fault_free before (Refused f) free = free

      by_free : (own : Option Fault) (before : List Statement) (s : Statement) (more : Session) → option_kind kind own ≡ false
          → told_kind kind more.fault ≡ false → told_kind kind (session_by own before s more).fault ≡ false
      by_free None before s more free rest = rest
      by_free (Some f) before s more free rest = free

      session_free : (before statements : List Statement) → AreFree kind statements → told_kind kind (session_behind before statements).fault ≡ false
      session_free before [] free = refl
      session_free before (s ∷ statements) free =
          by_free (fault_behind before s.says) before s (session_behind (before ++ s ∷ []) statements) (fault_free before s.says free.0)
          (session_free (before ++ s ∷ []) statements free.1)

      -- what the session of a text tells is not of this kind
      pub told_free : (text : List ℕ) → told_kind kind (session_of ending text).fault ≡ false
      told_free text = session_free [] (statements_of ending text) (rows_free 1 (lines_of ending text)).0
