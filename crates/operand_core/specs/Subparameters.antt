-- The places of a value. (GC28-6704, "Positional and keyword parameters": subparameter lists)
use Rattle.std.specs.Prelude.{ℕ, ◌-◌, Bool, true, false, not, ◌&&◌, ◌==◌, List, [], ◌∷◌, length, take, drop, Option, Some, None, if◌then◌else◌}
use Rattle.card_core.specs.Fields.{quoted_after}
use Rattle.operand_core.specs.Operands.{depth_after, places_of}

-- whether the parenthesis that is open closes with the last character, and not before
abbrev pub closes_last : Bool → ℕ → List ℕ → Bool
closes_last quoted depth [] = false
closes_last quoted depth (c ∷ []) = not quoted && depth == 1 && c == 41
closes_last quoted depth (c ∷ d ∷ cs) =
    if not quoted && depth == 1 && c == 41 then false
    else closes_last (quoted_after quoted c) (depth_after quoted depth c) (d ∷ cs)

-- one pair of parentheses round something
abbrev pub is_wrapped : List ℕ → Bool
is_wrapped [] = false
is_wrapped (c ∷ cs) = c == 40 && closes_last false 1 cs

abbrev pub inside : List ℕ → List ℕ
inside text = take (length text - 2) (drop 1 text)

-- of `(a,b)` a and b, of `a` a alone
abbrev pub subparameters_of : List ℕ → List (List ℕ)
subparameters_of value = if is_wrapped value then places_of (inside value) else value ∷ []

abbrev pub first_place : List (List ℕ) → List ℕ
first_place [] = []
first_place (place ∷ places) = place

-- the places that are left of a text, of which one whose commas end no place is one
abbrev pub places_left : Bool → Option (List ℕ) → List (List ℕ)
places_left splits None = []
places_left true (Some text) = places_of text
places_left false (Some text) = text ∷ []
