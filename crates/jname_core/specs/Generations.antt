-- The generations of a group: names that end in .GnnnnVvv. (GC28-6704, "Generation data sets")
use Rattle.std.specs.Prelude.{◌≡◌, ℕ, Bool, true, false, ◌+◌, ◌-◌, ◌*◌, ◌/◌, ◌%◌, ◌&&◌, ◌==◌, List, [], ◌∷◌, ◌++◌, length, take, drop, codes, Option, Some, None, nat_lt, if◌then◌else◌}
use Rattle.jname_core.specs.Characters.{is_digit}

-- a number's four digits
abbrev pub four_digits : ℕ → List ℕ
four_digits n = (48 + n / 1000) ∷ (48 + n / 100 % 10) ∷ (48 + n / 10 % 10) ∷ (48 + n % 10) ∷ []

abbrev pub number_of_digits : ℕ → ℕ → ℕ → ℕ → ℕ
number_of_digits a b c d = (a - 48) * 1000 + (b - 48) * 100 + (c - 48) * 10 + (d - 48)

-- the generation of a base with this number
abbrev pub generation_name : List ℕ → ℕ → List ℕ
generation_name base number = base ++ codes ".G" ++ four_digits number ++ codes "V00"

-- the nine characters .GnnnnVvv
abbrev pub is_suffix : List ℕ → Bool
is_suffix (period ∷ g ∷ a ∷ b ∷ c ∷ d ∷ v ∷ e ∷ f ∷ []) =
    period == 46 && g == 71 && is_digit a && is_digit b && is_digit c && is_digit d && v == 86 && is_digit e && is_digit f
is_suffix _ = false

-- how many characters stand before the last nine
abbrev pub before_suffix : List ℕ → ℕ
before_suffix text = length text - 9

-- a base of at least one character, and .GnnnnVvv behind it
abbrev pub has_generation_form : List ℕ → Bool
has_generation_form text = nat_lt 9 (length text) && is_suffix (drop (before_suffix text) text)

-- the number and the version that a suffix tells
abbrev pub suffix_number : List ℕ → ℕ
suffix_number (period ∷ g ∷ a ∷ b ∷ c ∷ d ∷ rest) = number_of_digits a b c d
suffix_number _ = 0

abbrev pub suffix_version : List ℕ → ℕ
suffix_version (period ∷ g ∷ a ∷ b ∷ c ∷ d ∷ v ∷ e ∷ f ∷ []) = number_of_digits 48 48 e f
suffix_version _ = 0

-- where a name has the form, its number is not 0 and its version is 00
abbrev pub is_bad_generation : List ℕ → Bool
is_bad_generation text = has_generation_form text
    && (if suffix_number (drop (before_suffix text) text) == 0 then true else nat_lt 0 (suffix_version (drop (before_suffix text) text)))

abbrev pub IsGoodGeneration : List ℕ → Type 0
IsGoodGeneration text = is_bad_generation text ≡ false

-- the number of a generation, or none of another name
abbrev pub generation_of : List ℕ → Option ℕ
generation_of text = if has_generation_form text then Some (suffix_number (drop (before_suffix text) text)) else None

-- the name under which a data set name is held: a generation's base, and else the name itself
abbrev pub base_of : List ℕ → List ℕ
base_of text = if has_generation_form text then take (before_suffix text) text else text

-- two names between which each generation of a base stands, in byte order
abbrev pub below_generations : List ℕ → List ℕ
below_generations base = base ++ codes ".G0000V0#"

abbrev pub above_generations : List ℕ → List ℕ
above_generations base = base ++ codes ".G9999V9A"
