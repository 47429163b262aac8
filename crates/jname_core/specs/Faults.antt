-- Which texts are refused as names, and with which number: the lowest whose words hold.
use Rattle.std.specs.Prelude.{ℕ, Bool, false, not, ◌||◌, ◌==◌, nat_lt, List, [], ◌∷◌, length, Option, Some, None, if◌then◌else◌}
use Rattle.std.specs.List.{list_any}
use Rattle.jname_core.specs.Characters.{is_first, is_name_character, is_component_character}
use Rattle.jname_core.specs.Generations.{is_bad_generation}
use Rattle.jname_core.specs.Grammar.{components_of}
use Rattle.jname_core.specs.declared.fault.NameFault.{NameFault}
use Rattle.jname_core.specs.declared.fault.NameFault.TheVariants.{Empty, TooLong, BadCharacter, BadGeneration}

abbrev pub is_empty : List ℕ → Bool
is_empty text = length text == 0

abbrev pub has_other_than : (ℕ → Bool) → List ℕ → Bool
has_other_than kind text = list_any (λ c. not (kind c)) text

abbrev pub begins_badly : List ℕ → Bool
begins_badly [] = false
begins_badly (c ∷ cs) = not (is_first c)

-- the first of four that holds
abbrev pub first_fault : Bool → Bool → Bool → Bool → Option NameFault
first_fault empty long character generation =
    if empty then Some Empty
    else (if long then Some TooLong
    else (if character then Some BadCharacter
    else (if generation then Some BadGeneration
    else None)))

abbrev pub name8_fault : List ℕ → Option NameFault
name8_fault text = first_fault (is_empty text) (nat_lt 8 (length text)) (begins_badly text || has_other_than is_name_character text) false

abbrev pub unit_name_fault : List ℕ → Option NameFault
unit_name_fault text = first_fault (is_empty text) (nat_lt 8 (length text)) (has_other_than is_name_character text) false

-- what is no serial
abbrev pub is_no_serial : List ℕ → Bool
is_no_serial text = is_empty text || nat_lt 6 (length text) || has_other_than is_component_character text

-- of the components, and of the whole
abbrev pub has_empty_component : List ℕ → Bool
has_empty_component text = list_any is_empty (components_of text)

abbrev pub has_long_component : List ℕ → Bool
has_long_component text = list_any (λ part. nat_lt 8 (length part)) (components_of text)

abbrev pub has_bad_component : List ℕ → Bool
has_bad_component text = list_any (λ part. begins_badly part || has_other_than is_component_character part) (components_of text)

abbrev pub ds_name_fault : ℕ → List ℕ → Option NameFault
ds_name_fault limit text = first_fault
    (has_empty_component text)
    (nat_lt limit (length text) || has_long_component text)
    (has_bad_component text)
    (is_bad_generation text)
