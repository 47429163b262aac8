-- Symbols, and an operand with their values in their places. (GC28-6704, "Symbolic parameters")
use Rattle.std.specs.Prelude.{ℕ, Bool, false, true, not, ◌&&◌, ◌||◌, ◌==◌, nat_lt, List, [], ◌∷◌, ◌++◌, length, map, Option, Some, None, is_some, codes, if◌then◌else◌}
use Rattle.std.specs.List.{list_any}
use Rattle.std.specs.Str.{bytes_eq}
use Rattle.jname_core.specs.Characters.{is_name_character}
use Rattle.card_core.specs.Fields.{quoted_after}
use Rattle.jcl_plan.specs.declared.fault.Cause.TheVariants.{P}
use Rattle.jcl_plan.specs.declared.fault.StatementFault.TheVariants.{OperandTooLong, SymbolWithoutValue}
use Rattle.operand_core.specs.Faults.{when}
use Rattle.operand_core.specs.Keywords.{is_long}
use Rattle.operand_core.specs.Operands.{keyword_of, places_of}
use Rattle.value_core.specs.Reads.{Read}
use Rattle.jcl_symbols.specs.declared.symbol.Symbol.{Symbol}

-- the value of a symbol: of two the first counts, so that those of a call stand before those of the procedure
abbrev pub value_of : List Symbol → List ℕ → Option (List ℕ)
value_of [] name = None
value_of (s ∷ symbols) name = if bytes_eq s.name name then Some s.value else value_of symbols name

-- a text with values in the places of symbols, and whether one of them has none
pub record Substituted : Type 0 where
  pub text : List ℕ
  pub lacks_value : Bool

abbrev pub nothing : Substituted
nothing = record { text = []; lacks_value = false }

abbrev pub behind : List ℕ → Substituted → Substituted
behind text s = record { text = text ++ s.text; lacks_value = s.lacks_value }

-- a symbol that has no value stays as it is written
abbrev pub valued : Option (List ℕ) → List ℕ → Substituted → Substituted
valued (Some value) name s = behind value s
valued None name s = record { text = 38 ∷ name ++ s.text; lacks_value = true }

-- an ampersand and the name behind it; without a name it is no symbol
abbrev pub ended : List Symbol → List ℕ → Substituted → Substituted
ended symbols [] s = behind (38 ∷ []) s
ended symbols (c ∷ cs) s = valued (value_of symbols (c ∷ cs)) (c ∷ cs) s

abbrev pub begins_symbol : Bool → ℕ → Bool
begins_symbol quoted c = not quoted && c == 38

-- a symbol's name is the longest run of at most seven name characters
abbrev pub goes_on : List ℕ → ℕ → Bool
goes_on name c = is_name_character c && nat_lt (length name) 7

-- two ampersands are no symbol
abbrev pub is_doubled : List ℕ → ℕ → Bool
is_doubled name c = length name == 0 && c == 38

-- a period behind a symbol that has a value ends it and is dropped
abbrev pub is_dropped : List Symbol → List ℕ → ℕ → Bool
is_dropped symbols name c = is_some (value_of symbols name) && c == 46

-- what is left of a text, where apostrophes are open or not, behind an ampersand and what was read of its name, or behind none
unfoldable pub substituted_from : List Symbol → Bool → Option (List ℕ) → List ℕ → Substituted
substituted_from symbols quoted None [] = nothing
substituted_from symbols quoted None (c ∷ cs) =
    if begins_symbol quoted c then substituted_from symbols false (Some []) cs
    else behind (c ∷ []) (substituted_from symbols (quoted_after quoted c) None cs)
substituted_from symbols quoted (Some name) [] = ended symbols name nothing
substituted_from symbols quoted (Some name) (c ∷ cs) =
    if goes_on name c then substituted_from symbols false (Some (name ++ c ∷ [])) cs
    else (if is_doubled name c then behind (codes "&&") (substituted_from symbols false None cs)
    else ended symbols name
    (if is_dropped symbols name c then substituted_from symbols false None cs
    else (if c == 38 then substituted_from symbols false (Some []) cs
    else behind (c ∷ []) (substituted_from symbols (quoted_after false c) None cs))))

abbrev pub substituted_in : List Symbol → List ℕ → Substituted
substituted_in symbols part = substituted_from symbols false None part

-- in the value of DSNAME a symbol without a value is the name of a temporary set
abbrev pub is_set_name : Option (List ℕ × List ℕ) → Bool
is_set_name None = false
is_set_name (Some found) = bytes_eq found.0 (codes "DSNAME") || bytes_eq found.0 (codes "DSN")

abbrev pub lacks_value : List Symbol → Bool → List ℕ → Bool
lacks_value symbols dd part = not (dd && is_set_name (keyword_of part)) && (substituted_in symbols part).lacks_value

-- places with commas between them
abbrev pub joined : List (List ℕ) → List ℕ
joined [] = []
joined (place ∷ []) = place
joined (place ∷ next ∷ places) = place ++ 44 ∷ joined (next ∷ places)

abbrev pub text_with : List Symbol → List ℕ → List ℕ
text_with symbols operand = joined (map (λ part. (substituted_in symbols part).text) (places_of operand))

-- The operand of a statement, a DD's or another's, with the values of symbols. It has at most 1,024 characters before and after.
abbrev pub substituted : List Symbol → Bool → List ℕ → Read (List ℕ)
substituted symbols dd operand = record {
  value = text_with symbols operand;
  faults = when (list_any (lacks_value symbols dd) (places_of operand)) (P SymbolWithoutValue)
      ++ when (is_long operand || is_long (text_with symbols operand)) (P OperandTooLong);
}
