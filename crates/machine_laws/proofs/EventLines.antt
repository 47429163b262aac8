-- A line that says an event says nothing to print.
use Rattle.std.proofs.Common.{◌-◌, ℕ, Bool, true, false, List, [], ◌∷◌, codes, length, Option, Some, None}
use Rattle.std.specs.Str.{bytes_eq}
use Rattle.cb_meaning.specs.declared.layout.TheConstants.{QUEUE_LAYOUT, RECORD_BYTES}
use Rattle.date_core.specs.Written.{written_day}
use Rattle.jname_core.specs.Decimals.{number_within}
use Rattle.print_laws.proofs.GroupsPrintable.{either}
use Rattle.session_input.specs.declared.event.Event.TheVariants as event
use Rattle.session_input.specs.declared.event.TheConstants.{FIRST_OPEN}
use Rattle.session_text.specs.declared.statement.Says.TheVariants as says
use Rattle.session_text.specs.Fields.{before_star, class_of, fields_of, is_marked, listed_in, serial_in, times_in}
use Rattle.session_text.specs.Statements.{bad, bytes_in, cancel_of, cancel_with, date_of, date_with, deck_of, device_end_of, device_end_with, display_of, event_by, says_in, says_of, stays_within, turns_of, turns_with, writes_of, writes_with, zap_by, zap_of, zap_with, zap_within}
use Rattle.machine_laws.proofs.Blocks.{IsPrintableBlock, IsPrintableSays}
use Rattle.machine_laws.proofs.Lines.{IsPrintableLineSays, by_word_printable}

deck_printable : (operands : List (List ℕ)) → IsPrintableBlock (deck_of operands)
deck_printable [] = tt
deck_printable (operand ∷ operands) = tt

-- turns, and writes
turns_by : (i times : Option ℕ) → IsPrintableSays (turns_with i times)
turns_by None times = tt
turns_by (Some i) None = tt
turns_by (Some i) (Some times) = tt

turns_printable : (operands : List (List ℕ)) → IsPrintableSays (turns_of operands)
turns_printable [] = tt
turns_printable (text ∷ []) = turns_by (number_within 1 15 (before_star text)) (times_in text)
turns_printable (text ∷ next ∷ more) = tt

writes_by : (class times : Option ℕ) → IsPrintableSays (writes_with class times)
writes_by None times = tt
writes_by (Some class) None = tt
writes_by (Some class) (Some times) = tt

writes_printable : (operands : List (List ℕ)) → IsPrintableSays (writes_of operands)
writes_printable [] = tt
writes_printable (text ∷ []) = writes_by (class_of (before_star text)) (times_in text)
writes_printable (text ∷ next ∷ more) = tt

-- the end of a device, and of a job
device_end_by : (serial : Option (List ℕ)) → IsPrintableSays (device_end_with serial)
device_end_by None = tt
device_end_by (Some serial) = tt

device_end_printable : (operands : List (List ℕ)) → IsPrintableSays (device_end_of operands)
device_end_printable [] = tt
device_end_printable (serial ∷ []) = device_end_by (serial_in serial)
device_end_printable (serial ∷ next ∷ more) = tt

cancel_by : (job : Option ℕ) → IsPrintableSays (cancel_with job)
cancel_by None = tt
cancel_by (Some job) = tt

cancel_printable : (operands : List (List ℕ)) → IsPrintableSays (cancel_of operands)
cancel_printable [] = tt
cancel_printable (job ∷ []) = cancel_by (number_within 1 9999 job)
cancel_printable (job ∷ next ∷ more) = tt

-- a zap
within_printable : (n offset : ℕ) (bytes : List ℕ) → IsPrintableSays (zap_within n offset bytes)
within_printable n offset bytes = either IsPrintableSays (stays_within offset (length bytes)) (says.Events (event.Zap n offset bytes) 1) bad tt tt

zap_with_printable : (n offset : Option ℕ) (bytes : Option (List ℕ)) → IsPrintableSays (zap_with n offset bytes)
zap_with_printable None offset bytes = tt
zap_with_printable (Some n) None bytes = tt
zap_with_printable (Some n) (Some offset) None = tt
zap_with_printable (Some n) (Some offset) (Some bytes) = within_printable n offset bytes

zap_by_printable : (items : List (List ℕ)) → IsPrintableSays (zap_by items)
zap_by_printable [] = tt
zap_by_printable (n ∷ []) = tt
zap_by_printable (n ∷ offset ∷ []) = tt
zap_by_printable (n ∷ offset ∷ hex ∷ []) =
    zap_with_printable (number_within 1 QUEUE_LAYOUT.most_records n) (number_within FIRST_OPEN (RECORD_BYTES - 1) offset) (bytes_in hex)
zap_by_printable (n ∷ offset ∷ hex ∷ next ∷ more) = tt

zap_printable : (operands : List (List ℕ)) → IsPrintableSays (zap_of operands)
zap_printable [] = tt
zap_printable (operand ∷ []) = zap_by_printable (listed_in operand)
zap_printable (operand ∷ next ∷ more) = tt

-- the display, and the date
display_printable : (operands : List (List ℕ)) → IsPrintableSays (display_of operands)
display_printable [] = tt
display_printable (operand ∷ operands) = tt

date_by : (day : Option ℕ) → IsPrintableSays (date_with day)
date_by None = tt
date_by (Some day) = tt

date_printable : (operands : List (List ℕ)) → IsPrintableSays (date_of operands)
date_printable [] = tt
date_printable (text ∷ []) = date_by (written_day text)
date_printable (text ∷ next ∷ more) = tt

-- any event
event_printable : (word : List ℕ) (operands : List (List ℕ)) → IsPrintableLineSays (event_by word operands)
event_printable word operands =
    either IsPrintableLineSays (bytes_eq word (codes "READ")) _ _ (deck_printable operands)
    (either IsPrintableLineSays (bytes_eq word (codes "TURN")) _ _ (turns_printable operands)
    (either IsPrintableLineSays (bytes_eq word (codes "DEV")) _ _ (device_end_printable operands)
    (either IsPrintableLineSays (bytes_eq word (codes "WRITE")) _ _ (writes_printable operands)
    (either IsPrintableLineSays (bytes_eq word (codes "CANCEL")) _ _ (cancel_printable operands)
    (either IsPrintableLineSays (bytes_eq word (codes "ZAP")) _ _ (zap_printable operands)
    (either IsPrintableLineSays (bytes_eq word (codes "DISPLAY")) _ _ (display_printable operands)
    (either IsPrintableLineSays (bytes_eq word (codes "DATE")) _ _ (date_printable operands) tt)))))))

-- and any line
says_printable : (marked : Bool) (fields : List (List ℕ)) → IsPrintableLineSays (says_in marked fields)
says_printable marked [] = tt
says_printable marked (mark ∷ []) = tt
says_printable true (mark ∷ word ∷ operands) = by_word_printable word operands (event_printable word operands)
says_printable false (mark ∷ word ∷ operands) = tt

pub line_printable : (text : List ℕ) → IsPrintableLineSays (says_of text)
line_printable text = says_printable (is_marked text) (fields_of text)
