-- The values of keywords.
use Rattle.std.specs.Prelude.{ℕ, Bool, true, false, ◌==◌, List, [], ◌∷◌, Option, Some, None, unwrap_or, if◌then◌else◌}
use Rattle.jname_core.specs.Characters.{is_letter_or_digit}
use Rattle.card_core.specs.Fields.{begun_with}

-- a value, where one is coded
abbrev pub coded : Option (List ℕ) → Option (List ℕ)
coded None = None
coded (Some []) = None
coded (Some (c ∷ cs)) = Some (c ∷ cs)

-- the text up to the apostrophe that ends it, two within being one; one may have begun that is the last or the first of two
abbrev pub enclosed : Bool → List ℕ → Option (List ℕ)
enclosed begun [] = if begun then Some [] else None
enclosed begun (c ∷ cs) =
    if c == 39 then (if begun then begun_with 39 (enclosed false cs) else enclosed true cs)
    else (if begun then None else begun_with c (enclosed false cs))

-- a value without apostrophes that enclose it whole
abbrev pub unquoted : List ℕ → List ℕ
unquoted [] = []
unquoted (c ∷ cs) = if c == 39 then unwrap_or (enclosed false cs) (c ∷ cs) else c ∷ cs

-- a letter or a digit
abbrev pub is_output_class : List ℕ → Bool
is_output_class (c ∷ []) = is_letter_or_digit c
is_output_class _ = false

-- A where none is coded
abbrev pub class_of : Option (List ℕ) → ℕ
class_of (Some (c ∷ cs)) = c
class_of _ = 65
