-- an operand is told by its parts
use Rattle.std.proofs.Common.{◌≡◌, ℕ, List, Option, ap, ◌∙◌}
use Rattle.operand_core.specs.Operands.{Keyword, Operand}

pub operand_is : (positional : List (Option (List ℕ))) (keywords : List Keyword) (operand : Operand) → positional ≡ operand.positional → keywords ≡ operand.keywords →
    record { positional = positional; keywords = keywords; faults = operand.faults } ≡ operand
operand_is positional keywords operand p k =
    let with_positional : List (Option (List ℕ)) → Operand = λ xs. record { positional = xs; keywords = keywords; faults = operand.faults } in
    let with_keywords : List Keyword → Operand = λ xs. record { positional = operand.positional; keywords = xs; faults = operand.faults } in
    ap with_positional p ∙ ap with_keywords k
