-- How texts, numbers and names are spelled. (GC28-6704, "Coding conventions"; this profile)
use Rattle.std.specs.Prelude.{ℕ, ◌==◌, Bool, false, ◌&&◌, nat_le, List, [], ◌∷◌, ◌++◌, length, replicate, codes, decimal, if◌then◌else◌}
use Rattle.std.specs.List.{join_with_byte, list_all, list_any}

-- an apostrophe within apostrophes is written twice
abbrev pub doubled : List ℕ → List ℕ
doubled [] = []
doubled (c ∷ cs) = if c == 39 then 39 ∷ 39 ∷ doubled cs else c ∷ doubled cs

abbrev pub quoted : List ℕ → List ℕ
quoted text = 39 ∷ (doubled text ++ 39 ∷ [])

-- a number, with so many zeros before it
abbrev pub number_with_zeros : ℕ → ℕ → List ℕ
number_with_zeros zeros n = replicate zeros 48 ++ decimal n

abbrev pub is_among : List ℕ → ℕ → Bool
is_among characters c = list_any (λ d. d == c) characters

-- what a name may begin with: letters, and #, @ and $
abbrev pub first_characters : List ℕ
first_characters = codes "ABCDEFGHIJKLMNOPQRSTUVWXYZ#@$"

abbrev pub name_characters : List ℕ
name_characters = codes "ABCDEFGHIJKLMNOPQRSTUVWXYZ#@$0123456789"

abbrev pub component_characters : List ℕ
component_characters = codes "ABCDEFGHIJKLMNOPQRSTUVWXYZ#@$0123456789-"

-- one of the first, and at most seven of the others
abbrev pub is_of : List ℕ → List ℕ → Bool
is_of others [] = false
is_of others (c ∷ cs) = is_among first_characters c && (list_all (is_among others) cs && nat_le (length cs) 7)

-- a name of a job, a step, a DD or a program
abbrev pub is_name : List ℕ → Bool
is_name text = is_of name_characters text

-- a component of a data set name
abbrev pub is_component : List ℕ → Bool
is_component text = is_of component_characters text

-- components, with periods between them
abbrev pub joined : List (List ℕ) → List ℕ
joined components = join_with_byte 46 components
