-- How operands are spelled. (GC28-6704, "Positional and keyword parameters", "Coding conventions")
use Rattle.std.specs.Prelude.{ℕ, ◌==◌, Bool, true, false, not, ◌&&◌, List, [], ◌∷◌, ◌++◌, map, codes, Some}
use Rattle.std.specs.List.{join_with_byte, list_all}
use Rattle.operand_core.specs.Operands.{Operand}
use Rattle.reader_laws.specs.Spelled.{is_among, quoted}

mutual
  -- a value from left to right: a character, a text in apostrophes, or values in parentheses, and what follows
  pub data Value : Type 0 where
    End : Value
    Character : ℕ → Value → Value
    Apostrophes : List ℕ → Value → Value
    Parentheses : Values → Value → Value

  -- values with commas between them
  pub data Values : Type 0 where
    Last : Value → Values
    Before : Value → Values → Values

abbrev mutual
  pub spelled : Value → List ℕ
  spelled End = []
  spelled (Character c v) = c ∷ spelled v
  spelled (Apostrophes text v) = quoted text ++ spelled v
  spelled (Parentheses vs v) = 40 ∷ (spelled_all vs ++ 41 ∷ spelled v)

  pub spelled_all : Values → List ℕ
  spelled_all (Last v) = spelled v
  spelled_all (Before v vs) = spelled v ++ 44 ∷ spelled_all vs

abbrev pub texts_of : Values → List (List ℕ)
texts_of (Last v) = spelled v ∷ []
texts_of (Before v vs) = spelled v ∷ texts_of vs

-- no blank, apostrophe, parenthesis or comma
abbrev pub is_plain : ℕ → Bool
is_plain c = not (c == 32) && (not (c == 39) && (not (c == 40) && (not (c == 41) && not (c == 44))))

abbrev mutual
  pub is_value : Value → Bool
  is_value End = true
  is_value (Character c v) = is_plain c && is_value v
  is_value (Apostrophes text v) = is_value v
  is_value (Parentheses vs v) = are_values vs && is_value v

  pub are_values : Values → Bool
  are_values (Last v) = is_value v
  are_values (Before v vs) = is_value v && are_values vs

-- a keyword and its value
pub record Keyed : Type 0 where
  pub key : List ℕ
  pub value : Value

abbrev pub keyed_text : Keyed → List ℕ
keyed_text k = k.key ++ 61 ∷ spelled k.value

-- positional values, then keywords
abbrev pub operand_text : List Value → List Keyed → List ℕ
operand_text positional keywords = join_with_byte 44 (map spelled positional ++ map keyed_text keywords)

abbrev pub key_characters : List ℕ
key_characters = codes "ABCDEFGHIJKLMNOPQRSTUVWXYZ#@$0123456789."

abbrev pub is_key : List ℕ → Bool
is_key [] = false
is_key (c ∷ key) = list_all (is_among key_characters) (c ∷ key)

abbrev pub is_keyed : Keyed → Bool
is_keyed k = is_key k.key && is_value k.value

-- a positional value, without = here
abbrev pub is_positional : Value → Bool
is_positional v = is_value v && list_all (λ c. not (c == 61)) (spelled v)

-- the operand that was spelled
abbrev pub operand : List Value → List Keyed → Operand
operand positional keywords = record {
  positional = map (λ v. Some (spelled v)) positional;
  keywords = map (λ k. record { key = k.key; value = Some (spelled k.value) }) keywords;
  faults = [];
}

-- a value of characters alone
abbrev pub of_characters : List ℕ → Value
of_characters [] = End
of_characters (c ∷ text) = Character c (of_characters text)
