-- Operands that are spelled read back.
use Rattle.std.specs.Prelude.{◌≡◌, ◌≤◌, ℕ, true, false, List, [], ◌∷◌, length}
use Rattle.std.specs.List.{list_all}
use Rattle.operand_core.specs.Operands.{is_read, operand_of, places_of}
use Rattle.operand_core.specs.Subparameters.{subparameters_of}
use Rattle.reader_laws.specs.SpelledOperands.{Keyed, Value, Values, are_values, is_keyed, is_positional, is_value, operand, operand_text, spelled, spelled_all, texts_of}
use Rattle.reader_laws.specs.WrittenCards.{is_empty, is_whole}

pub record ValuesReadBack : Type 0 where
  pub one_place : (v : Value) → is_value v ≡ true → places_of (spelled v) ≡ spelled v ∷ []
  pub places : (vs : Values) → are_values vs ≡ true → places_of (spelled_all vs) ≡ texts_of vs
  pub read : (v : Value) → is_value v ≡ true → is_read (spelled v) ≡ true
  pub whole : (vs : Values) → are_values vs ≡ true → is_whole false (spelled_all vs) ≡ true
  -- of (a,b) a and b; of (a,b) with something behind it that alone
  pub parentheses : (vs : Values) → are_values vs ≡ true → subparameters_of (spelled (Value.Parentheses vs Value.End)) ≡ texts_of vs
  pub followed : (vs : Values) (v : Value) → are_values vs ≡ true → is_empty (spelled v) ≡ false →
      subparameters_of (spelled (Value.Parentheses vs v)) ≡ spelled (Value.Parentheses vs v) ∷ []

abbrev pub OperandReadsBack : Type 0
OperandReadsBack = (most : ℕ) (positional : List Value) (keywords : List Keyed) → list_all is_positional positional ≡ true → list_all is_keyed keywords ≡ true →
    length positional ≤ most → is_empty (operand_text positional keywords) ≡ false →
    operand_of most (operand_text positional keywords) ≡ operand positional keywords
