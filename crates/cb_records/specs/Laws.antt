-- What holds of any record, and what a write leaves as it was. (This profile)
use Rattle.std.specs.Prelude.{◌≡◌, ℕ, ◌+◌, ◌≤◌, ◌<◌, ◌⊎◌, true, List, All}
use Rattle.std.specs.List.{list_any}
use Rattle.cb_meaning.specs.declared.layout.Field.{Field}
use Rattle.cb_meaning.specs.Fields.{is_in, is_zero_but, part}
use Rattle.cb_records.specs.Writes.{ChangesOnly}

-- no byte is in both fields
abbrev pub AreApart : Field → Field → Type 0
AreApart f g = (f.at + f.width ≤ g.at) ⊎ (g.at + g.width ≤ f.at)

abbrev pub OtherFieldsStay : Type 0
OtherFieldsStay = (f g : Field) (old new : List ℕ) → ChangesOnly f old new → AreApart f g → part new g.at g.width ≡ part old g.at g.width

-- each byte of a field is in one of these
abbrev pub IsCovered : Field → List Field → Type 0
IsCovered f named = (k : ℕ) → is_in f k ≡ true → list_any (λ g. is_in g k) named ≡ true

abbrev pub UnusedStayZero : Type 0
UnusedStayZero = (f : Field) (named : List Field) (old new : List ℕ) → ChangesOnly f old new → IsCovered f named → is_zero_but named old ≡ true →
    is_zero_but named new ≡ true

-- each byte is below 256
abbrev pub AreBytes : List ℕ → Type 0
AreBytes r = All (λ b. b < 256) r
