use Rattle.std.proofs.Common.{◌∷◌, ap, ◌∙◌}
use Rattle.session_text.proofs.Zapped.{four_parts}
use Rattle.session_text.proofs.zaps.three_parts.Goals as goal

pub returns-in-Some-next_part-2 : goal.returns-in-Some-next_part-2
returns-in-Some-next_part-2 c =
    let x = c.in-Some.first in
    let y = c.in-Some-next_part.second in
    four_parts c.args.text.now x y c.in-Some-next_part-2.field-0.0 c.in-Some-next_part-2.field-0.1.now
    (c.in-Some.ensures.some ∙ ap (λ parts. x ∷ parts) c.in-Some-next_part.ensures.some ∙ ap (λ parts. x ∷ y ∷ parts) c.in-Some-next_part-2.ensures.some)
