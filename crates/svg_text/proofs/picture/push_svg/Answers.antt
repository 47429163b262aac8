use Rattle.std.proofs.Common.{◌++◌, codes, ap, ◌∙◌}
use Rattle.svg_text.specs.Elements.{attribute_text}
use Rattle.svg_text.specs.Pictures.{counted, said, view_box}
use Rattle.svg_text.proofs.Joined.{joined_four, middle_four, ok_then}
use Rattle.svg_text.proofs.picture.push_svg.Goals as goal

pub returns-clause-ok : goal.returns-clause-ok
returns-clause-ok c =
    let old = c.args.out.now.begun in
    let names = attribute_text (said (codes "xmlns") (codes "http://www.w3.org/2000/svg")) in
    let width = attribute_text (counted (codes "width") c.args.size.width) in
    let height = attribute_text (counted (codes "height") c.args.size.height) in
    let box = attribute_text (view_box c.args.size) in
    ok_then c.push_view_box.result
    (λ e. joined_four old c.push.new.out.begun c.push_said.new.out.begun c.push_size.new.out.begun c.push_view_box.new.out.begun
    (codes "<svg") names (width ++ height) box
    c.in_ok-push.ensures.ok c.in_ok-push_said.ensures.ok c.in_ok-push_size.ensures.ok e
    ∙ ap (λ xs. old ++ xs) (middle_four (codes "<svg") names width height box))
    c.push_view_box.ensures.ok
