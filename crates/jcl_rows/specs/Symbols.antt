-- Operands, and what they are with the values of symbols; the others are in jcl_symbols' own examples. `substituted` answers what its definition
-- here reads. (jcl_symbols)
use Rattle.std.specs.Prelude.{◌≡◌, [], true, false, replicate, codes, Some}
use Rattle.jcl_plan.specs.declared.fault.Cause.TheVariants.{P}
use Rattle.jcl_plan.specs.declared.fault.StatementFault.TheVariants.{SymbolWithoutValue}
use Rattle.operand_core.specs.Faults.{told}
use Rattle.value_core.specs.Reads.{good}
use Rattle.jcl_symbols.specs.Examples.{symbols}
use Rattle.jcl_symbols.specs.Substitutions.{substituted}

-- Operands with and without symbols.
pub record Substitutes : Type 0 where
  pub temporary : substituted symbols true (codes "DSN=&T") ≡ good (codes "DSN=&T")
  pub nothing_behind_a_value : told (substituted symbols true (codes "DSN=&N,DISP=&N&T")).faults ≡ Some (P SymbolWithoutValue)
  pub long_without_symbols : substituted [] false (replicate 1024 65) ≡ good (replicate 1024 65)
