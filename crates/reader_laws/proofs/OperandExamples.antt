-- An operand as it is spelled, and that what is asked of its parts is met.
use Rattle.std.proofs.Common.{◌≡◌, ℕ, true, List, [], ◌∷◌, refl}
use Rattle.std.specs.Prelude.{codes}
use Rattle.std.specs.List.{list_all}
use Rattle.reader_laws.specs.SpelledOperands.{Keyed, Value, Values, is_keyed, is_positional, operand_text}

characters : List ℕ → Value → Value
characters [] v = v
characters (c ∷ cs) v = Value.Character c (characters cs v)

-- (1,A) and 'O''HARA, J'
account : Value
account = Value.Parentheses (Values.Before (characters (codes "1") Value.End) (Values.Last (characters (codes "A") Value.End))) Value.End

programmer : Value
programmer = Value.Apostrophes (codes "O'HARA, J)") Value.End

class : Keyed
class = record { key = codes "CLASS"; value = characters (codes "B") Value.End }

cond : Keyed
cond = record {
  key = codes "COND.S1";
  value = Value.Parentheses (Values.Last (Value.Parentheses (Values.Last (characters (codes "4")
      Value.End)) (Value.Apostrophes [] Value.End))) (characters (codes "=") Value.End);
}

spelled : operand_text (account ∷ programmer ∷ []) (class ∷ cond ∷ []) ≡ codes "(1,A),'O''HARA, J)',CLASS=B,COND.S1=((4)'')="
unfolding characters account programmer class cond
spelled = refl

positional : list_all is_positional (account ∷ programmer ∷ []) ≡ true
unfolding characters account programmer
positional = refl

keywords : list_all is_keyed (class ∷ cond ∷ []) ≡ true
unfolding characters class cond
keywords = refl
