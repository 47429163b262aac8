-- What is entered in a record's fields, one after the other.
use Rattle.std.specs.Prelude.{◌≡◌, ℕ, List, [], ◌∷◌, map, replicate}
use Rattle.cb_meaning.specs.declared.layout.Field.{Field}
use Rattle.cb_meaning.specs.declared.layout.TheConstants.{RECORD_BYTES}
use Rattle.cb_meaning.specs.Fields.{byte_at, field, number_at, part}
use Rattle.cb_records.specs.Writes.{ChangesOnly}

-- one byte, a number in its field, or all bytes of a field
pub data Entry : Type 0 where
  Byte : ℕ → ℕ → Entry
  Number : Field → ℕ → Entry
  Text : Field → List ℕ → Entry

abbrev pub place : Entry → Field
place (Byte at b) = field at 1
place (Number f n) = f
place (Text f bytes) = f

abbrev pub places : List Entry → List Field
places entries = map place entries

-- an entry stands in a record
abbrev pub Stands : List ℕ → Entry → Type 0
Stands r (Byte at b) = byte_at r at ≡ b
Stands r (Number f n) = number_at r f ≡ n
Stands r (Text f bytes) = part r f.at f.width ≡ bytes

-- the entries were made one after the other, and nothing else
abbrev pub AreEntered : List ℕ → List Entry → List ℕ → Type 0
AreEntered old [] new = new ≡ old
AreEntered old (e ∷ entries) new = (next : List ℕ) × ChangesOnly (place e) old next × Stands next e × AreEntered next entries new

abbrev pub zeros : List ℕ
zeros = replicate RECORD_BYTES 0
