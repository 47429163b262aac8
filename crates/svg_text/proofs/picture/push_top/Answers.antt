use Rattle.std.proofs.Common.{◌++◌, codes}
use Rattle.svg_text.specs.Elements.{attributes_text, element_text}
use Rattle.svg_text.specs.Pictures.{svg_attributes, text_element}
use Rattle.svg_text.proofs.Joined.{joined, joined_four, ok_then}
use Rattle.svg_text.proofs.picture.push_top.Goals as goal

pub returns-clause-ok : goal.returns-clause-ok
returns-clause-ok c =
    let old = c.args.out.now.begun in
    let p = c.args.picture.now in
    let start = codes "<svg" ++ attributes_text (svg_attributes p.size) in
    let title = element_text (text_element (codes "title") p.title) in
    let style = element_text (text_element (codes "style") p.style) in
    ok_then c.push-2.result
    (λ e. joined old c.push_whole-2.new.out.begun c.push-2.new.out.begun (start ++ codes ">" ++ title ++ style) (codes "\n")
    (joined_four old c.push_svg.new.out.begun c.push.new.out.begun c.push_whole.new.out.begun c.push_whole-2.new.out.begun
    start (codes ">") title style
    c.in_ok-push_svg.ensures.ok c.in_ok-push.ensures.ok
    (rw c.as_slice.ensures at c.in_ok-push_whole.ensures.ok) (rw c.as_slice-2.ensures at c.in_ok-push_whole-2.ensures.ok))
    e)
    c.push-2.ensures.ok
