-- Names, serials and records that a text spells are printable.
use Rattle.std.proofs.Common.{◌≡◌, ◌-◌, ℕ, Bool, true, false, cond, not, nat_le, nat_lt, List, [], ◌∷◌, length, replicate, All, Option, Some, None, is_none, refl, arith, leb-true}
use Rattle.std.specs.Prelude.{IfSome}
use Rattle.std.specs.List.{list_any}
use Rattle.std.proofs.lemmas.Bool.{and_parts, not-false, or_parts}
use Rattle.std.proofs.lemmas.List.Elements.{All-append, All-cons, All-nil, All-replicate}
use Rattle.jname_core.specs.declared.fault.NameFault.{NameFault}
use Rattle.jname_core.specs.Characters.{is_between}
use Rattle.jname_core.specs.Faults.{is_no_serial, name8_fault}
use Rattle.jname_core.proofs.Names.{name8_from_none, serial_from_kept}
use Rattle.line_laws.specs.Printable.{IsPrintable}
use Rattle.print_laws.proofs.Characters.{IsShown, name8_printable, serial_printable}
use Rattle.session_text.specs.Fields.{name_in, serial_in}
use Rattle.session_text.specs.Records.{filled, is_no_record, record_in}

-- what is kept only where a fault is missing
kept_printable : (b : Bool) (text : List ℕ) → (b ≡ false → IsPrintable text) → IfSome (cond b None (Some text)) IsPrintable
kept_printable true text h = tt
kept_printable false text h = h refl

-- a serial
pub good_serial : (text : List ℕ) → is_no_serial text ≡ false → IsPrintable text
good_serial text h = serial_printable text (serial_from_kept text h)

pub serial_in_printable : (text : List ℕ) → IfSome (serial_in text) IsPrintable
serial_in_printable text = kept_printable (is_no_serial text) text (good_serial text)

-- each of some serials
pub good_serials : (serials : List (List ℕ)) → list_any is_no_serial serials ≡ false → All IsPrintable serials
good_serials [] h = All-nil IsPrintable
good_serials (serial ∷ serials) h =
    let both : (is_no_serial serial ≡ false) × (list_any is_no_serial serials ≡ false) = or_parts (is_no_serial serial) (list_any is_no_serial serials) h in
    All-cons IsPrintable serial serials (good_serial serial both.0) (good_serials serials both.1)

-- a name
named_by : (fault : Option NameFault) (text : List ℕ) → (fault ≡ None → IsPrintable text) → IfSome (cond (is_none fault) (Some text) None) IsPrintable
named_by None text h = h refl
named_by (Some fault) text h = tt

pub name_in_printable : (text : List ℕ) → IfSome (name_in text) IsPrintable
name_in_printable text = named_by (name8_fault text) text (λ none. name8_printable text (name8_from_none text none))

-- a record
abbrev is_strange : ℕ → Bool
is_strange b = not (is_between 32 126 b)

byte_shown : (b : ℕ) → is_strange b ≡ false → IsShown b
byte_shown b h =
    let both : (nat_le 32 b ≡ true) × (nat_le b 126 ≡ true) = and_parts (nat_le 32 b) (nat_le b 126) (not-false (is_between 32 126 b) h) in
    (leb-true 32 b both.0, leb-true b 126 both.1)

bytes_shown : (line : List ℕ) → list_any is_strange line ≡ false → IsPrintable line
bytes_shown [] h = All-nil IsShown
bytes_shown (b ∷ bs) h =
    let both : (is_strange b ≡ false) × (list_any is_strange bs ≡ false) = or_parts (is_strange b) (list_any is_strange bs) h in
    All-cons IsShown b bs (byte_shown b both.0) (bytes_shown bs both.1)

pub good_record : (line : List ℕ) → is_no_record line ≡ false → IsPrintable (filled line)
good_record line h =
    let both : (nat_lt 80 (length line) ≡ false) × (list_any is_strange line ≡ false) = or_parts (nat_lt 80 (length line)) (list_any is_strange line) h in
    All-append IsShown line (replicate (80 - length line) 32) (bytes_shown line both.1)
    (All-replicate IsShown (80 - length line) 32 (omega arith, omega arith))

pub record_in_printable : (line : List ℕ) → IfSome (record_in line) IsPrintable
record_in_printable line = kept_printable (is_no_record line) (filled line) (good_record line)
