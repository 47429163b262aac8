use Rattle.std.proofs.Common.{◌++◌, codes, ap, ◌∙◌}
use Rattle.svg_text.specs.Elements.{attribute_text}
use Rattle.svg_text.specs.Pictures.{counted, said}
use Rattle.svg_text.proofs.Joined.{joined_four, ok_then, right_four}
use Rattle.svg_text.proofs.element.push_pattern.Goals as goal

pub returns-clause-ok : goal.returns-clause-ok
returns-clause-ok c =
    let old = c.args.out.now.begun in
    let id = attribute_text (said (codes "id") c.args.name.now) in
    let units = attribute_text (said (codes "patternUnits") (codes "userSpaceOnUse")) in
    let width = attribute_text (counted (codes "width") c.args.size.width) in
    let height = attribute_text (counted (codes "height") c.args.size.height) in
    ok_then c.push_size.result
    (λ e. joined_four old c.push.new.out.begun c.push_said.new.out.begun c.push_units.new.out.begun c.push_size.new.out.begun
    (codes "<pattern") id units (width ++ height)
    c.in_ok-push.ensures.ok (rw c.as_slice.ensures.value at c.in_ok-push_said.ensures.ok) c.in_ok-push_units.ensures.ok e
    ∙ ap (λ xs. old ++ xs) (right_four (codes "<pattern") id units width height))
    c.push_size.ensures.ok
