use Rattle.std.proofs.Common.{◌++◌, codes, ap, ◌∙◌, ◌∷◌}
use Rattle.svg_text.specs.Elements.{attributes_text, content_text, escaped, nothing}
use Rattle.svg_text.specs.Pictures.{class_of, form_attributes, form_name, titled}
use Rattle.svg_text.proofs.Joined.{joined, ok_then}
use Rattle.svg_text.proofs.Pieces.{text_pieces}
use Rattle.svg_text.proofs.element.push_mark.Goals as goal

pub returns-in-Text-clause-ok : goal.returns-in-Text-clause-ok
returns-in-Text-clause-ok c =
    let m = c.args.mark.now in
    let old = c.args.out.now.begun in
    let start = codes "<" ++ form_name m.form ++ attributes_text (class_of m.class ∷ form_attributes m.form) in
    let rest = codes ">" ++ content_text (titled m.title nothing) ++ escaped c.in-Text.text ++ codes "</" ++ codes "text" ++ codes ">" in
    ok_then c.push_rest-in-Text.result
    (λ e. joined old c.push_form.new.out.begun c.push_rest-in-Text.new.out.begun start rest c.in_ok-push_form.ensures.ok e
    ∙ ap (λ xs. old ++ xs) (text_pieces m c.in-Text.at c.in-Text.text c.in-Text.is))
    (rw c.as_slice.ensures at c.push_rest-in-Text.ensures.ok)
