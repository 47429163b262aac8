-- A text that is written piece by piece, as far as an operand is read. (This profile)
use Rattle.std.specs.Prelude.{◌≡◌, ℕ, ◌<◌, Bool, true, false, ◌&&◌, ◌||◌, ◌==◌, if◌then◌else◌, List, [], ◌∷◌, ◌++◌, length, map, Option, ◌⊎◌, Some, None}
use Rattle.jcl_symbols.specs.declared.symbol.Symbol.{Symbol}
use Rattle.jcl_symbols.specs.Substitutions.{Substituted, behind, joined, substituted_in, valued, substituted_from}

-- what is written, with what is left to write, is the whole text; or both have over 1,024 characters
abbrev pub Stores : List ℕ → List ℕ → List ℕ → Type 0
Stores written left all = (written ++ left ≡ all) ⊎ ((1024 < length written) × (1024 < length all))

-- from one state of the text to a later one something was written of all, and this is left of it
pub record Writes (old new : List ℕ) (all left : Substituted) (lacks_value : Bool) : Type 0 where
  pub text : (rest whole : List ℕ) → Stores old (all.text ++ rest) whole → Stores new (left.text ++ rest) whole
  pub lacks : all.lacks_value ≡ (lacks_value || left.lacks_value)

-- a name behind an ampersand, with the value that was found
abbrev pub ended_with : Option (List ℕ) → List ℕ → Substituted → Substituted
ended_with value [] s = behind (38 ∷ []) s
ended_with value (c ∷ cs) s = valued value (c ∷ cs) s

-- places behind those that were written, of which the first stands behind no comma
abbrev pub commas_before : List (List ℕ) → List ℕ
commas_before [] = []
commas_before (place ∷ places) = 44 ∷ place ++ commas_before places

abbrev pub places_left : Bool → List (List ℕ) → List ℕ
places_left true places = commas_before places
places_left false places = joined places

abbrev pub texts_of : List Symbol → List (List ℕ) → List (List ℕ)
texts_of symbols places = map (λ place. (substituted_in symbols place).text) places

-- the next place is written, with its comma
abbrev pub WritesNext : List Symbol → List ℕ → List ℕ → Bool → List ℕ → Type 0
WritesNext symbols old new begun place = (places : List (List ℕ)) (whole : List ℕ) → Stores old (places_left begun (texts_of symbols (place ∷ places))) whole →
    Stores new (places_left true (texts_of symbols places)) whole

-- a period behind a symbol that has a value is dropped
abbrev pub without_period : Bool → List ℕ → List ℕ
without_period has_value [] = []
without_period has_value (c ∷ cs) = if has_value && c == 46 then cs else c ∷ cs

-- what an ampersand begins is written: of the text after it this is left
abbrev pub WritesSymbol : List Symbol → List ℕ → List ℕ → List ℕ → List ℕ → Bool → Type 0
WritesSymbol symbols text old new left lacks_value =
    Writes old new (substituted_from symbols false (Some []) text) (substituted_from symbols false None left) lacks_value
