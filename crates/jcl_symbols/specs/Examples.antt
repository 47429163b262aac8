-- Operands, and what they are with the values of symbols. (This profile)
use Rattle.std.specs.Prelude.{◌≡◌, ℕ, true, false, List, [], ◌∷◌, ◌++◌, codes, replicate, Some}
use Rattle.jcl_plan.specs.declared.fault.Cause.TheVariants.{P}
use Rattle.jcl_plan.specs.declared.fault.StatementFault.TheVariants.{OperandTooLong, SymbolWithoutValue}
use Rattle.operand_core.specs.Faults.{told}
use Rattle.value_core.specs.Reads.{good}
use Rattle.jcl_symbols.specs.declared.symbol.Symbol.{Symbol}
use Rattle.jcl_symbols.specs.Substitutions.{substituted}

abbrev pub symbol : List ℕ → List ℕ → Symbol
symbol name value = record { name = name; value = value }

-- N and C have values, E an empty one; C has another in the procedure
abbrev pub symbols : List Symbol
symbols = symbol (codes "N") (codes "PAY.DATA") ∷ symbol (codes "C") (codes "B") ∷ symbol (codes "E") [] ∷ symbol (codes "C") (codes "A")
    ∷ symbol (codes "SEVENCH") (codes "7") ∷ symbol (codes "Q") (codes "'X,Y'") ∷ []

pub record Substitutes : Type 0 where
  pub value : substituted symbols true (codes "DSNAME=&N,DISP=OLD") ≡ good (codes "DSNAME=PAY.DATA,DISP=OLD")
  pub of_the_call : substituted symbols true (codes "SYSOUT=&C") ≡ good (codes "SYSOUT=B")
  pub period_dropped : substituted symbols true (codes "DSN=&N.X") ≡ good (codes "DSN=PAY.DATAX")
  pub second_period_stays : substituted symbols true (codes "DSN=&N..X") ≡ good (codes "DSN=PAY.DATA.X")
  pub nullified : substituted symbols true (codes "DSN=A&E.B,UNIT=&E") ≡ good (codes "DSN=AB,UNIT=")
  pub two_in_a_row : substituted symbols false (codes "PGM=&C&C") ≡ good (codes "PGM=BB")
  pub in_apostrophes : substituted symbols false (codes "PGM=P,PARM='&C&&C'") ≡ good (codes "PGM=P,PARM='&C&&C'")
  pub behind_apostrophes : substituted symbols false (codes "PGM=P,PARM='A'&C") ≡ good (codes "PGM=P,PARM='A'B")
  pub apostrophe_ends_it : substituted symbols false (codes "PARM=&C'&C'") ≡ good (codes "PARM=B'&C'")
  pub seven_characters : substituted symbols false (codes "PGM=&SEVENCHX") ≡ good (codes "PGM=7X")
  pub doubled : substituted symbols true (codes "DSN=&&C") ≡ good (codes "DSN=&&C")
  pub three : substituted symbols true (codes "DSN=&&&C") ≡ good (codes "DSN=&&B")
  pub of_no_name : substituted symbols false (codes "PARM=&,ACCT=&(&C)") ≡ good (codes "PARM=&,ACCT=&(B)")
  pub comma_of_a_value : substituted symbols false (codes "PARM=&Q") ≡ good (codes "PARM='X,Y'")
  pub in_parentheses : substituted symbols true (codes "DISP=(OLD,&E,KEEP)") ≡ good (codes "DISP=(OLD,,KEEP)")
  pub temporary : substituted symbols true (codes "DSNAME=&T") ≡ good (codes "DSNAME=&T")
  pub period_of_a_temporary : substituted symbols true (codes "DSN=&T.X,SYSOUT=&C") ≡ good (codes "DSN=&T.X,SYSOUT=B")
  pub without_a_value : told (substituted symbols true (codes "DSN=&T,SYSOUT=&T")).faults ≡ Some (P SymbolWithoutValue)
  pub no_name_of_a_dd : told (substituted symbols false (codes "DSN=&T")).faults ≡ Some (P SymbolWithoutValue)
  pub positional : told (substituted symbols true (codes "&T")).faults ≡ Some (P SymbolWithoutValue)
  pub none : substituted symbols true [] ≡ good []
  pub of_1024 : substituted symbols false (replicate 1024 65) ≡ good (replicate 1024 65)
  pub of_1025 : told (substituted symbols false (replicate 1025 65)).faults ≡ Some (P OperandTooLong)
  pub too_long_before : told (substituted symbols false (replicate 1023 65 ++ codes "&E")).faults ≡ Some (P OperandTooLong)
  pub too_long_behind : told (substituted symbols false (replicate 1020 65 ++ codes "&N")).faults ≡ Some (P OperandTooLong)
  pub value_told_first : told (substituted symbols false (replicate 1024 65 ++ codes "&T")).faults ≡ Some (P SymbolWithoutValue)
