-- Operands and their values: `operand_of` and `unquoted` answer these definitions (operand_core).
use Rattle.std.specs.Prelude.{◌≡◌, ◌∷◌, [], codes, Some}
use Rattle.jcl_plan.specs.declared.fault.Cause.TheVariants.{P}
use Rattle.jcl_plan.specs.declared.fault.StatementFault.TheVariants.{UnbalancedParentheses}
use Rattle.operand_core.specs.Faults.{told}
use Rattle.operand_core.specs.Operands.{operand_of}
use Rattle.operand_core.specs.Values.{unquoted}

-- `operand_of` gives the parts, the keywords and the fault that is told of these faults.
pub record ReadsOperands : Type 0 where
  pub parts : operand_of 1 (codes "A(B,C),KEY='X,Y',OTHER=((1),2)")
      ≡ record {
        positional = Some (codes "A(B,C)") ∷ [];
        keywords = record { key = codes "KEY"; value = Some (codes "'X,Y'") } ∷ record { key = codes "OTHER"; value = Some (codes "((1),2)") } ∷ [];
        faults = [];
      }
  pub least_fault : told (operand_of 1 (codes "A,KEY=(B,C))")).faults ≡ Some (P UnbalancedParentheses)

-- `unquoted` gives this.
pub record DropsApostrophes : Type 0 where
  pub doubled : unquoted (codes "'A''B'") ≡ codes "A'B"
  pub closed_before : unquoted (codes "'A'B'") ≡ codes "'A'B'"
  pub none : unquoted (codes "AB") ≡ codes "AB"
