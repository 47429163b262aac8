-- Texts in apostrophes, numbers and names that are spelled read back.
use Rattle.std.specs.Prelude.{◌≡◌, ℕ, ◌<◌, ◌≤◌, ◌^◌, ◌⊎◌, true, false, List, [], ◌∷◌, length, Some, None}
use Rattle.std.specs.List.{list_all}
use Rattle.jname_core.specs.Decimals.{number_within}
use Rattle.jname_core.specs.Faults.{ds_name_fault, name8_fault}
use Rattle.jname_core.specs.Generations.{has_generation_form}
use Rattle.jname_core.specs.Grammar.{components_of}
use Rattle.operand_core.specs.Operands.{is_read, places_of}
use Rattle.operand_core.specs.Values.{unquoted}
use Rattle.reader_laws.specs.Spelled.{is_component, is_name, joined, number_with_zeros, quoted}
use Rattle.reader_laws.specs.WrittenCards.{is_whole}

-- a text in apostrophes is itself; it is one place, is read, and may stand on a card
pub record QuotedReadsBack : Type 0 where
  pub itself : (text : List ℕ) → unquoted (quoted text) ≡ text
  pub one_place : (text : List ℕ) → places_of (quoted text) ≡ quoted text ∷ []
  pub read : (text : List ℕ) → is_read (quoted text) ≡ true
  pub whole : (text : List ℕ) → is_whole false (quoted text) ≡ true

-- a number within limits, and one that is not, whatever zeros stand before it
pub record NumberReadsBack : Type 0 where
  pub within : (zeros low high n : ℕ) → n < 2 ^ 64 → low ≤ n → n ≤ high → number_within low high (number_with_zeros zeros n) ≡ Some n
  pub outside : (zeros low high n : ℕ) → n < 2 ^ 64 → (n < low) ⊎ (high < n) → number_within low high (number_with_zeros zeros n) ≡ None

pub record NamesReadBack : Type 0 where
  pub name : (text : List ℕ) → is_name text ≡ true → name8_fault text ≡ None
  -- the components of a data set name are what it was joined of
  pub components : (part : List ℕ) (parts : List (List ℕ)) → list_all is_component (part ∷ parts) ≡ true → components_of (joined (part ∷ parts)) ≡ part ∷ parts
  pub ds_name : (part : List ℕ) (parts : List (List ℕ)) → list_all is_component (part ∷ parts) ≡ true → length (joined (part ∷ parts)) ≤ 44 →
      has_generation_form (joined (part ∷ parts)) ≡ false → ds_name_fault 44 (joined (part ∷ parts)) ≡ None
