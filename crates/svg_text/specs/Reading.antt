-- How a reader of XML reads a text between tags, or an attribute's value. (XML 1.0, sections 2.4, 4.6)
use Rattle.std.specs.Prelude.{◌≡◌, ◌≢◌, ℕ, true, List, [], ◌∷◌, ◌++◌, codes, if◌then◌else◌}
use Rattle.svg_text.specs.Elements.{is_shown}

-- a byte that is shown as it is: none of the marks of XML
pub record IsPlain (b : ℕ) : Type 0 where
  pub not_ampersand : b ≢ 38
  pub not_less : b ≢ 60
  pub not_greater : b ≢ 62
  pub not_quote : b ≢ 34
  pub shown : is_shown b ≡ true

-- the bytes on the left are read as those on the right
pub data ReadsAs : List ℕ → List ℕ → Type 0 where
  at_end : ReadsAs [] []
  plain : (b : ℕ) (written read : List ℕ) → IsPlain b → ReadsAs written read → ReadsAs (b ∷ written) (b ∷ read)
  ampersand : (written read : List ℕ) → ReadsAs written read → ReadsAs (codes "&amp;" ++ written) (38 ∷ read)
  less : (written read : List ℕ) → ReadsAs written read → ReadsAs (codes "&lt;" ++ written) (60 ∷ read)
  greater : (written read : List ℕ) → ReadsAs written read → ReadsAs (codes "&gt;" ++ written) (62 ∷ read)
  quote : (written read : List ℕ) → ReadsAs written read → ReadsAs (codes "&quot;" ++ written) (34 ∷ read)

-- what is left of a byte: itself, or a question mark
abbrev pub kept_byte : ℕ → ℕ
kept_byte b = if is_shown b then b else 63
