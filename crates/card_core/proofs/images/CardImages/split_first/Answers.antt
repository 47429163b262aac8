use Rattle.std.proofs.Common.{ℕ, List, length, ◌≤◌}
use Rattle.std.proofs.lemmas.List.Elements.{All-rest}
use Rattle.card_core.proofs.images.CardImages.split_first.Goals as goal

pub invariant_of-result : goal.invariant_of-result
invariant_of-result c = All-rest (λ (line : List ℕ). length line ≤ 80) c.in-Some.line.now c.in-Some.lines.now c.self.inside.lines.now c.in-Some.ensures.cases.0 c.self.invariant
