-- The characters of names. (GC28-6704, "Coding conventions", alphameric and national characters)
use Rattle.std.specs.Prelude.{ℕ, Bool, ◌||◌, ◌&&◌, ◌==◌, nat_le}

abbrev pub is_between : ℕ → ℕ → ℕ → Bool
is_between low high c = nat_le low c && nat_le c high

-- A to Z
abbrev pub is_letter : ℕ → Bool
is_letter c = is_between 65 90 c

-- 0 to 9
abbrev pub is_digit : ℕ → Bool
is_digit c = is_between 48 57 c

abbrev pub is_letter_or_digit : ℕ → Bool
is_letter_or_digit c = is_letter c || is_digit c

-- the class of a job: A to O. (CLASS parameter)
abbrev pub is_job_class : ℕ → Bool
is_job_class c = is_between 65 79 c

-- #, @ and $
abbrev pub is_national : ℕ → Bool
is_national c = c == 35 || c == 64 || c == 36

-- what a name may begin with
abbrev pub is_first : ℕ → Bool
is_first c = is_letter c || is_national c

-- what a name may hold
abbrev pub is_name_character : ℕ → Bool
is_name_character c = is_first c || is_digit c

-- what a component of a data set name, and a serial, may hold
abbrev pub is_component_character : ℕ → Bool
is_component_character c = is_name_character c || c == 45
